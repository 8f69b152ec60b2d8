-- `console_answers::faults::fault_words` meets its contract: the text's lines are the definition's words (`words` proofs/Listed).
use mathlib.Core.Path.{refl}
use Rattle.text.specs.Texts.{text}
use Rattle.text.specs.Bytes.{is_sort, run}
use Rattle.console_answers.specs.Faults.{faults, fault_words}
use Rattle.words.proofs.Listed.{listed, plain, lines}
use Rattle.text.proofs.Pages.{told_as}
use Rattle.console_answers.proofs.faults.fault_words.Goals as goal

pub returns : goal.returns
unfolding text is_sort run listed plain fault_words
returns c = told_as (lines faults _ refl) c.put_line.ensures
