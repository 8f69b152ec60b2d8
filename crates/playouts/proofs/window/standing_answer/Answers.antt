-- `playouts::window::standing_answer` meets its contract: the tests in their order.
use mathlib.Core.Path.{refl}
use borrow.Author.Tests.{lt-ltb, le-ltb, eq-eqb, ne_eqb}
use Rattle.grid.proofs.Numbers.{ne_zero_pos}
use Rattle.playouts.specs.inner.Steps.{title_answer}
use Rattle.playouts.proofs.window.standing_answer.Goals as goal

pub returns-then-place-size : goal.returns-then-place-size
unfolding title_answer
returns-then-place-size c = rw (lt-ltb _ _ c.if-place-size.true) refl

pub returns-then-cap-eq0 : goal.returns-then-cap-eq0
unfolding title_answer
returns-then-cap-eq0 c = rw (le-ltb _ _ c.if-place-size.false, eq-eqb _ 0 c.if-cap-eq0.true) refl

pub tick_at-requires : goal.tick_at-requires
tick_at-requires c = (c.requires (ne_zero_pos _ c.if-cap-eq0.false)).owing.film

pub returns-then-tick_at-tick : goal.returns-then-tick_at-tick
unfolding title_answer
returns-then-tick_at-tick c =
    rw (
      le-ltb _ _ c.if-place-size.false,
      ne_eqb _ 0 c.if-cap-eq0.false,
      ← c.tick_at.ensures.is,
      lt-ltb _ _ c.if-tick_at-tick.true,
    )
    refl

pub returns : goal.returns
unfolding title_answer
returns c =
    rw (
      le-ltb _ _ c.if-place-size.false,
      ne_eqb _ 0 c.if-cap-eq0.false,
      ← c.tick_at.ensures.is,
      le-ltb _ _ c.if-tick_at-tick.false,
    )
    refl
