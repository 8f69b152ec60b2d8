-- `strips::kept::claim` meets its contract: a mark is new or not, and the row follows.
use mathlib.Core.Path.{refl}
use borrow.Author.Tests.{lt-ltb, le-ltb}
use Rattle.strips.specs.Kept.{drawn_to}
use Rattle.strips.proofs.kept.claim.Goals as goal

pub returns-then-kept-j : goal.returns-then-kept-j
unfolding drawn_to
returns-then-kept-j c = rw (lt-ltb _ _ c.if-kept-j.true) (refl, refl)

pub returns : goal.returns
unfolding drawn_to
returns c = rw (le-ltb _ _ c.if-kept-j.false) (refl, refl)
