-- `tick` meets its contract: the division rounds up over a title's blocks, or is the grid's. Rests on the laws of kinds.
use mathlib.Core.Path.{◌∙◌}
use borrow.Author.Rules.{rules}
use Rattle.grid.proofs.Ticks.{ceil_rounded}
use Rattle.scheme.proofs.ByKind.{steady_tick_exactly, padded_tick}
use Rattle.scheme.proofs.tick.Goals as goal

pub returns-then-kind-eq-STEADY : goal.returns-then-kind-eq-STEADY
returns-then-kind-eq-STEADY c =
    let s = c.before.before in
    let a = s.args in
    rw (c.div_ceil.ensures ∙ ceil_rounded a.length c.pow2-blocks.result c.pow2-blocks.ensures.low)
    (steady_tick_exactly a.kind a.floor a.cap a.length c.pow2-blocks.result c.if-kind-eq-STEADY.true s.requires.length.low c.pow2-blocks.ensures.is)

pub returns : goal.returns
returns c =
    let a = c.args in
    rw (padded_tick a.kind a.floor a.cap a.length c.if-kind-eq-STEADY.false) c.tick.ensures
