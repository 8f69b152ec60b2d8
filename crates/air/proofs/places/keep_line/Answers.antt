-- `air::places::keep_line` meets its contract, by whether the word has begun.
use mathlib.Core.Path.{refl}
use borrow.Author.Tests.{lt-ltb, le-ltb}
use Rattle.air.proofs.places.keep_line.Goals as goal

pub returns-then-k-passed : goal.returns-then-k-passed
returns-then-k-passed c = rw (lt-ltb _ _ c.if-k-passed.true) refl

pub returns : goal.returns
returns c = rw (le-ltb _ _ c.if-k-passed.false) refl
