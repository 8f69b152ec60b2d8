-- `console_answers::entries::put_entry` meets its contract: a space, and the number behind it.
use Rattle.text.specs.Texts.{text}
use Rattle.console_answers.specs.Entries.{entry}
use Rattle.text.proofs.Pages.{then}
use Rattle.console_answers.proofs.entries.put_entry.Goals as goal

pub returns : goal.returns
unfolding entry text
returns c = then c.put.ensures c.put_number.ensures
