-- `clocks::reading::has_colon` meets its contract: a byte of the word is the colon.
use mathlib.Core.Path.{◌∙◌}
use Rattle.clocks.proofs.Colons.{any_colon}
use Rattle.clocks.proofs.reading.has_colon.Goals as goal

pub returns : goal.returns
returns c = c.contains.ensures.value ∙ any_colon c.args.word.now
