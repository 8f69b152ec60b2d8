-- `titles::floor_total` meets its contract. The loop's invariant: the sum and what the other places add are
-- the total, and the sum is below 2^32 for each place passed, so that sixteen fit 64 bits.
use native.Mathlib.Omega.{arith}
use Rattle.sharing_titles.proofs.titles.Laws.{total_next, total_none}
use Rattle.sharing_titles.proofs.titles.floor_total.Goals as goal

pub overflow_add-sum : goal.overflow_add-sum
overflow_add-sum c = record { fits = omega (arith, c.type_inv.floors c.loop-floor.floor-index, c.from-sum.ensures, c.loop-floor.invariant) }

pub loop-floor-preserved : goal.loop-floor-preserved
loop-floor-preserved c =
    let i = c.loop-floor.floor-index in
    omega (arith, c.type_inv.floors i, total_next c.args.floors.now i c.loop-floor-test.true)

pub returns : goal.returns
returns c = omega (arith, total_none c.args.floors.now c.loop-floor.floor-index c.loop-floor-test.false)
