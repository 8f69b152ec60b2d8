-- `words::put_naming` meets its contract, by the refusal.
use Rattle.text.specs.Texts.{text}
use Rattle.words.specs.Words.{naming_words}
use borrow.Author.Tests.{ne_eqb}
use native.Mathlib.Omega.{arith}
use Rattle.words.proofs.put_naming.Goals as goal

pub returns-in-12 : goal.returns-in-12
unfolding naming_words text
returns-in-12 c = rw (c.in-12.is) c.put.ensures

pub returns-in-16 : goal.returns-in-16
unfolding naming_words text
returns-in-16 c = rw (c.in-16.is) c.put-in-16.ensures

pub returns-in_default : goal.returns-in_default
unfolding naming_words text
returns-in_default c = rw (ne_eqb c.args.number 12 (omega arith), ne_eqb c.args.number 16 (omega arith)) c.put-in_default.ensures
