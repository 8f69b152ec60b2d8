-- `console_answers::faults::put_usage` meets its contract: the text's lines are the definition's usages (`words` proofs/Listed).
use mathlib.Core.Path.{refl}
use Rattle.text.specs.Texts.{text}
use Rattle.text.specs.Bytes.{is_sort, run}
use Rattle.console_answers.specs.Faults.{usages, usage_of}
use Rattle.words.proofs.Listed.{listed, plain, lines}
use Rattle.text.proofs.Pages.{told_as}
use Rattle.console_answers.proofs.faults.put_usage.Goals as goal

pub returns : goal.returns
unfolding text is_sort run listed plain usages usage_of
returns c = told_as (lines usages _ refl) c.put_line.ensures
