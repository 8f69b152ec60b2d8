-- `console_notices::reading::put_word` meets its contract: the text's lines are the definition's words (`words` proofs/Listed).
use Prim.Native.Nat.{ℕ}
use mathlib.Core.Path.{◌∙◌, ap, refl}
use mathlib.Core.List.{[]}
use lib.ListN.{get_or}
use Rattle.text.specs.Texts.{text}
use Rattle.text.specs.Bytes.{is_sort, run}
use Rattle.words.proofs.Listed.{listed, plain, lines}
use Rattle.console_notices.specs.inner.Kinds.{kind_words}
use Rattle.text.proofs.Pages.{told_as}
use Rattle.console_notices.proofs.reading.put_word.Goals as goal

pub returns : goal.returns
unfolding text is_sort run listed plain
returns c = told_as (lines kind_words _ refl ∙ ap (λ (k : ℕ). get_or kind_words k []) c.kind_number.ensures) c.put_line.ensures
