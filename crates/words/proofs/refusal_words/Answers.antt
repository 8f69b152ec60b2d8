-- `words::refusal_words` meets its contract: the text's lines are the definition's words (proofs/Listed).
use mathlib.Core.Path.{refl}
use Rattle.text.specs.Texts.{text}
use Rattle.text.specs.Bytes.{is_sort, run}
use Rattle.words.specs.Words.{refusals, refusal_words}
use Rattle.text.proofs.Pages.{told_as}
use Rattle.words.proofs.Listed.{listed, plain, lines}
use Rattle.words.proofs.refusal_words.Goals as goal

pub returns : goal.returns
unfolding text is_sort run listed plain refusal_words
returns c = told_as (lines refusals _ refl) c.put_line.ensures
