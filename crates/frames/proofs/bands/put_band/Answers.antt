-- `frames::bands::put_band` meets its contract: its parts are written one behind the other; nothing where the id has no band.
use borrow.Author.Tests.{eq-eqb, ne_eqb}
use Rattle.text.specs.Texts.{text}
use Rattle.text.proofs.Pages.{then, nothing}
use Rattle.frames.specs.Bands.{band_text}
use Rattle.frames.proofs.bands.put_band.Goals as goal

pub returns-then-cap-ne0 : goal.returns-then-cap-ne0
unfolding band_text text
returns-then-cap-ne0 c =
    rw (ne_eqb _ _ c.if-cap-ne0.true, ← c.top_of-top.ensures.0, ← c.lanes_height.ensures.0)
    (then (then (then (then (then (then (then c.put_rect.ensures c.put.ensures) c.put_number.ensures) c.put_rect_end.ensures)
    c.put_label.ensures) c.put-then-cap-ne0.ensures) c.put_number-then-cap-ne0.ensures) c.put_label_end.ensures)

pub returns-else-cap-ne0 : goal.returns-else-cap-ne0
unfolding band_text
returns-else-cap-ne0 c = rw (eq-eqb _ _ c.if-cap-ne0.false) nothing
