-- `console_limits::quantities::put_name` meets its contract: the text's lines are the definition's names (`words` proofs/Listed).
use mathlib.Core.Path.{refl}
use Rattle.text.specs.Texts.{text}
use Rattle.text.specs.Bytes.{is_sort, run}
use Rattle.console_limits.specs.Quantities.{quantity_names, quantity_name}
use Rattle.words.proofs.Listed.{listed, plain, lines}
use Rattle.text.proofs.Pages.{told_as}
use Rattle.console_limits.proofs.quantities.put_name.Goals as goal

pub returns : goal.returns
unfolding text is_sort run listed plain quantity_name
returns c = told_as (lines quantity_names _ refl) c.put_line.ensures
