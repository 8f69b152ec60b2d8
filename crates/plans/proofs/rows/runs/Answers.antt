-- `plans::rows::runs` meets its contract. The invariant: the runs of lower powers are written.
-- Rests on the laws of runs.
use mathlib.Core.Path.{◌≡◌, refl, ap, ◌∙◌}
use Prim.Native.Nat.{suc, ◌+◌, ◌-◌, ◌^◌, ◌%◌, ◌≤◌}
use native.Mathlib.Omega.{arith}
use native.Mathlib.Nat.{mod-lt}
use lib.Pow.{pow_mono}
use Rattle.plans.specs.inner.Rows.{written_from, runs_at}
use Rattle.plans.proofs.rows.Written.{from_none}
use Rattle.plans.proofs.rows.Places.{next_run}
use Rattle.plans.proofs.rows.runs.Goals as goal

pub loop-power-init : goal.loop-power-init
loop-power-init c =
    let a = c.args in
    let e : 2 ^ a.low - 2 ^ a.low ≡ 0 = omega arith in
    rw e (from_none (runs_at a.base a.phase) a.row.now (2 ^ a.low - a.base))

pub overflow_sub-many : goal.overflow_sub-many
overflow_sub-many c =
    let s = c.before.before.before.before in
    let l = c.loop-power in
    let m : 2 ^ s.args.low ≤ 2 ^ l.power = pow_mono (omega arith) in
    omega (arith, c.pow2-many.ensures.is, s.requires.base_bound.0)

pub run-requires : goal.run-requires
run-requires c =
    let p = c.pow2-many in
    let s = c.before.before.before.before.before in
    let l = c.loop-power in
    let m : 2 ^ s.args.low ≤ 2 ^ l.power = pow_mono (omega arith) in
    let n : 2 ^ suc l.power ≤ 2 ^ s.args.high = pow_mono c.loop-power-test.true in record { many_in_bounds = omega (arith, p.ensures.is, s.requires.base_bound.0, s.requires.base_bound.1); off_lt_many = (mod-lt s.args.phase p.ensures.low, p.ensures.high) }

pub loop-power-preserved : goal.loop-power-preserved
loop-power-preserved c =
    let t = c.before.before in
    let p = t.before.before in
    let i = p.before in
    let l = i.loop-power in
    let s = i.before.before.before in
    let a = s.args in
    let e : l.power + 1 ≡ suc l.power = omega arith in
    rw e
    (next_run a.base a.phase l.power (omega (arith, s.requires.low_le_high.1)) a.row.now l.row _ a.low
    p.pow2-many.result (a.phase % p.pow2-many.result) (omega arith) s.requires.base_bound.0 p.pow2-many.ensures.is refl l.invariant t.run.ensures)

pub shape_of-row : goal.shape_of-row
shape_of-row c = c.loop-power.auto.row

pub returns : goal.returns
returns c =
    let l = c.loop-power in
    let a = c.args in
    l.invariant
    ∙ ap (λ p. written_from (runs_at a.base a.phase) a.row.now (2 ^ a.low - a.base) (2 ^ p - 2 ^ a.low))
    (omega arith)
