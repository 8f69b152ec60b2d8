-- `figures::segments::unbuffered` meets its contract: the test told as a number.
use mathlib.Core.Path.{ap, ◌∙◌}
use Rattle.rules.specs.Refusals.{pick}
use Rattle.figures.proofs.Told.{as_number}
use Rattle.figures.proofs.segments.unbuffered.Goals as goal

pub returns : goal.returns
returns c = c.from.ensures ∙ as_number _ ∙ ap (λ b. pick b 1 0) c.needs_no_buffer.ensures
