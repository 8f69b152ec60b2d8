-- `text::digits::letter` meets its contract: the test says whether it is a digit or a letter.
use native.Mathlib.Omega.{arith}
use borrow.Author.Tests.{lt-ltb, le-ltb}
use Rattle.text.specs.Digits.{letter_of}
use Rattle.text.proofs.digits.letter.Goals as goal

pub returns-then-n-lt10 : goal.returns-then-n-lt10
unfolding letter_of
returns-then-n-lt10 c = rw (lt-ltb _ _ c.if-n-lt10.true)

pub returns-else-n-lt10 : goal.returns-else-n-lt10
unfolding letter_of
returns-else-n-lt10 c = rw (le-ltb _ _ c.if-n-lt10.false) (omega arith)
