-- `airing::follow::answer_of` meets its contract: the tests in their order.
use mathlib.Core.Path.{refl}
use borrow.Author.Tests.{lt-leb, le-leb, lt-ltb, ne_eqb}
use Rattle.grid.proofs.Numbers.{ne_zero_pos}
use Rattle.airing.specs.inner.Steps.{followed_answer}
use Rattle.airing.proofs.follow.answer_of.Goals as goal

pub returns-then-place-size : goal.returns-then-place-size
unfolding followed_answer
returns-then-place-size c = rw (lt-leb _ _ c.if-place-size.true) refl

pub returns-then-cap-eq0 : goal.returns-then-cap-eq0
unfolding followed_answer
returns-then-cap-eq0 c = rw (le-leb _ _ c.if-place-size.false, c.if-cap-eq0.true) refl

pub returns-then-kind-eq-PADDED : goal.returns-then-kind-eq-PADDED
unfolding followed_answer
returns-then-kind-eq-PADDED c = rw (le-leb _ _ c.if-place-size.false, lt-ltb 0 _ (ne_zero_pos _ c.if-cap-eq0.false), c.if-kind-eq-PADDED.true) refl

pub returns : goal.returns
unfolding followed_answer
returns c = rw (le-leb _ _ c.if-place-size.false, lt-ltb 0 _ (ne_zero_pos _ c.if-cap-eq0.false), ne_eqb _ 0 c.if-kind-eq-PADDED.false) refl
