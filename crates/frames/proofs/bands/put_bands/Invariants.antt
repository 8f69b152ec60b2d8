-- What the loop keeps.
use Rattle.text.specs.Pages.{Puts}
use Rattle.frames.specs.Bands.{bands_text}
use Rattle.frames.proofs.bands.put_bands.Given as goal

abbrev pub invariant-loop-id : goal.invariant-loop-id
invariant-loop-id l = Puts l.initial.page (bands_text l.v l.id) l.page
