-- `text::digits::hex_of` meets its contract: its arms are the tests of the definition.
use native.Mathlib.Omega.{arith}
use borrow.Author.Tests.{lt-ltb, le-ltb}
use Rattle.text.specs.Digits.{hex_of}
use Rattle.text.proofs.digits.hex_of.Goals as goal

pub returns-in-48-to-57 : goal.returns-in-48-to-57
unfolding hex_of
returns-in-48-to-57 c = (search (lt-ltb, le-ltb), omega arith)

pub returns-in-65-to-70 : goal.returns-in-65-to-70
unfolding hex_of
returns-in-65-to-70 c = (search (lt-ltb, le-ltb), omega arith)

pub returns-in-97-to-102 : goal.returns-in-97-to-102
unfolding hex_of
returns-in-97-to-102 c = (search (lt-ltb, le-ltb), omega arith)

pub returns-in_default : goal.returns-in_default
unfolding hex_of
returns-in_default c = (search (lt-ltb, le-ltb), omega arith)

pub returns-in_default-2 : goal.returns-in_default-2
unfolding hex_of
returns-in_default-2 c = (search (lt-ltb, le-ltb), omega arith)

pub returns-in_default-3 : goal.returns-in_default-3
unfolding hex_of
returns-in_default-3 c = (search (lt-ltb, le-ltb), omega arith)

pub returns-in_default-4 : goal.returns-in_default-4
unfolding hex_of
returns-in_default-4 c = (search (lt-ltb, le-ltb), omega arith)
