-- `figures::steady::on_lane` meets its contract. The invariant: the places passed hold the lane's blocks.
-- Rests on what `lane_cell` ensures.
use mathlib.Core.Path.{◌≡◌, refl, ap, ◌∙◌}
use Prim.Native.Nat.{ℕ, ◌+◌, ◌^◌, ◌≤◌, ◌<◌}
use native.Mathlib.Omega.{arith}
use lib.ListN.{length, length-set}
use lib.Pow.{pow_mono}
use Rattle.rules.specs.Limits.{count_max}
use Rattle.scheme.specs.Scheme.{scheme_of, steady_kind}
use Rattle.figures.specs.Steady.{block_on}
use Rattle.figures.proofs.Filling.{filled_next}
use Rattle.figures.proofs.steady.on_lane.Goals as goal

-- a cell counts from 0, its block from 1
block : (K l t cell : ℕ) → cell ≡ (scheme_of steady_kind K K).on_lane l t → cell + 1 ≡ block_on l t
unfolding scheme_of
block K l t cell e = ap (λ n. n + 1) e

small : (K cell : ℕ) → K ≤ count_max → cell < 2 ^ K → cell + 1 < 2 ^ 64
small K cell high l = let m : 2 ^ K ≤ 2 ^ count_max = pow_mono high in omega arith

pub loop-i-init : goal.loop-i-init
loop-i-init c = (refl, λ i l. absurd (omega arith))

pub lane_cell-requires : goal.lane_cell-requires
lane_cell-requires c =
    let p = c.requires in
    record { floor_cap = p.floor_cap; lane_lt_cap = (p.lane_lt_count, omega arith) }

pub overflow_add-block : goal.overflow_add-block
overflow_add-block c = record { fits = small c.args.count c.lane_cell.result c.requires.floor_cap.high c.lane_cell.ensures.within }

pub loop-i-preserved : goal.loop-i-preserved
loop-i-preserved c =
    let a = c.args in
    let l = c.loop-i in
    let v : ℕ = c.lane_cell.result + 1 in
    let room : l.i < length l.block-items = omega (arith, c.loop-i-test.true) in (
      length-set l.block-items l.i v ∙ l.invariant.0,
      filled_next (block_on a.lane) l.block-items l.i v room l.invariant.1
          (block a.count a.lane l.i c.lane_cell.result c.lane_cell.ensures.is),
    )

pub returns : goal.returns
returns c =
    let l = c.loop-i in
    record { size = l.invariant.0; value = λ i b. l.invariant.1 i (omega (arith, c.loop-i-test.false)) }
