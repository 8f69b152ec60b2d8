-- `grid::in_g` meets its contract: past the cells there is none, and any other goes out on the channel that carries it
-- alone. Rests on the laws of the plan.
use mathlib.Core.Path.{refl, sym, ◌∙◌}
use borrow.Author.Tests.{lt-ltb, le-ltb}
use native.Mathlib.Omega.{arith}
use Rattle.grid.proofs.Carriers.{in_carried, in_cells}
use Rattle.grid.proofs.in_g.Goals as goal

pub returns-then-pow2-cell : goal.returns-then-pow2-cell
returns-then-pow2-cell c =
    let s = c.before.before in
    sym (in_cells _ _ _ _ _ s.requires.counted.fit (omega (arith, c.if-pow2-cell.true, c.pow2.ensures.is)))

pub returns-then-channel-count : goal.returns-then-channel-count
returns-then-channel-count c =
    let a = c.args in
    let d = c.carrier-channel in
    rw c.channel_cell.ensures.is
    (sym (in_carried a.floor a.cap a.count a.tick a.cell d.result d.ensures
    ∙ rw (lt-ltb _ _ c.if-channel-count.true) refl))

pub returns-else-channel-count : goal.returns-else-channel-count
returns-else-channel-count c =
    let a = c.args in
    let d = c.carrier-channel in
    sym (in_carried a.floor a.cap a.count a.tick a.cell d.result d.ensures
    ∙ rw (le-ltb _ _ c.if-channel-count.false) refl)
