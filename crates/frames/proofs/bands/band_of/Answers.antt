-- `frames::bands::band_of` meets its contract: its top is that of its id.
use Rattle.frames.proofs.Tops.{band_is}
use Rattle.frames.proofs.bands.band_of.Goals as goal

pub returns : goal.returns
returns c = band_is _ _ _ c.top_of.ensures.0
