-- `listing_io::input::show` meets its contract: what it writes is the step's line, which lies within its row.
use mathlib.Core.Path.{sym}
use lib.Seq.{length-take-le}
use Rattle.listing_io.proofs.input.show.Goals as goal

pub slice_bounds-row-end : goal.slice_bounds-row-end
slice_bounds-row-end c = c.list_line-shown.ensures.fits

pub slice_bounds-write_all-end : goal.slice_bounds-write_all-end
slice_bounds-write_all-end c = sym (length-take-le _ _ c.list_line-shown.ensures.fits)
