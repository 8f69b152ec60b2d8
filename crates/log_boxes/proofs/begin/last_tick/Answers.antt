-- `log_boxes::begin::last_tick` meets its contract: 0 without a film, else by its tick and its cells.
use mathlib.Core.Path.{refl}
use borrow.Author.Tests.{eq-eqb, ne_eqb}
use Rattle.grid.proofs.Numbers.{ne_zero_pos}
use Rattle.log_boxes.specs.inner.Steps.{last_tick}
use Rattle.log_boxes.proofs.begin.last_tick.Goals as goal

pub returns-then-cap-eq0 : goal.returns-then-cap-eq0
unfolding last_tick
returns-then-cap-eq0 c = rw (eq-eqb _ 0 c.if-cap-eq0.true) refl

pub tick_at-requires : goal.tick_at-requires
tick_at-requires c = (c.requires.opened (ne_zero_pos _ c.if-cap-eq0.false)).owing.film

pub pow2-requires : goal.pow2-requires
pow2-requires c = (c.requires.opened (ne_zero_pos _ c.if-cap-eq0.false)).owing.film.cut.high

pub returns : goal.returns
unfolding last_tick
returns c = rw (ne_eqb _ 0 c.if-cap-eq0.false, ← c.tick_at.ensures.is, ← c.pow2.ensures.is) refl
