-- `plans::forward::fill` meets its contract. Rests on the law that the first block and the lanes' runs are the plan.
use mathlib.Core.Path.{ap, ◌∙◌}
use Prim.Native.Nat.{◌-◌, ◌^◌, ◌<◌}
use native.Mathlib.Omega.{arith}
use lib.ListN.{length, length-set}
use lib.Pow.{pow_pos}
use Rattle.plans.proofs.rows.Written.{from_length}
use Rattle.plans.proofs.forward.Lanes.{runs_plan}
use Rattle.plans.proofs.forward.fill.Goals as goal

pub bounds-row-0 : goal.bounds-row-0
bounds-row-0 c =
    let o : 0 < 2 ^ (c.args.count - 1) = pow_pos (c.args.count - 1) in
    omega (arith, c.requires.count_in_bounds)

pub runs-requires : goal.runs-requires
runs-requires c =
    let s = c.before.before in
    let a = s.args in record { low_le_high = (omega arith, omega (arith, s.requires.count_min_le_count.1)); base_bound = (omega arith, omega (arith, s.requires.count_in_bounds, length-set a.row.now 0 0)) }

pub shape_of-row : goal.shape_of-row
shape_of-row c =
    let a = c.args in
    ap length c.runs.ensures ∙ from_length _ _ _ _ ∙ length-set a.row.now 0 0

pub returns : goal.returns
returns c =
    let s = c.before.before.before.before.before in
    let a = s.args in
    runs_plan a.count a.arrival s.requires.count_min_le_count.0 s.requires.count_min_le_count.1 a.row.now _ c.runs.ensures
