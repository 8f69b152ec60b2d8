-- `words::put_meaning` meets its contract: its parts are written one behind the other.
use Rattle.text.specs.Texts.{text}
use Rattle.words.specs.Words.{meaning_text}
use Rattle.text.proofs.Pages.{then}
use Rattle.words.proofs.put_meaning.Goals as goal

pub returns : goal.returns
unfolding meaning_text text
returns c = then (then c.put_number.ensures c.put.ensures) c.refusal_words.ensures
