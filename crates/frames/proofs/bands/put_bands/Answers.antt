-- `frames::bands::put_bands` meets its contract: band by band.
use Rattle.text.proofs.Pages.{nothing}
use Rattle.frames.specs.Bands.{bands_text}
use Rattle.frames.proofs.Tops.{bands_next}
use Rattle.frames.proofs.bands.put_bands.Goals as goal

pub loop-id-init : goal.loop-id-init
unfolding bands_text
loop-id-init c = nothing

pub loop-id-preserved : goal.loop-id-preserved
loop-id-preserved c = bands_next _ _ c.loop-id.invariant c.put_band.ensures
