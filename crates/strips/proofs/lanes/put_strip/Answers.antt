-- `strips::lanes::put_strip` meets its contract: a rectangle with its text, and the end of what is sent.
use mathlib.Core.Path.{sym, ◌∙◌}
use Rattle.text.specs.Texts.{text}
use Rattle.text.proofs.Pages.{then}
use Rattle.strips.specs.Lanes.{strip_text}
use Rattle.strips.proofs.Marked.{taken_text_lem, left_text}
use Rattle.strips.proofs.lanes.put_strip.Goals as goal

pub returns-then-is_some : goal.returns-then-is_some
unfolding text strip_text
returns-then-is_some c =
    rw (← c.lane_top-y.ensures.0, ← c.since.ensures)
    (taken_text_lem _ _ _ (sym c.is_some.ensures ∙ c.if-is_some.true)
    (then (then (then c.put_rect.ensures c.put_told.ensures) c.put_rect_end.ensures) c.put_tail.ensures))

pub returns-else-is_some : goal.returns-else-is_some
unfolding text strip_text
returns-else-is_some c =
    rw (← c.lane_top-y.ensures.0, ← c.since.ensures)
    (left_text _ _ _ (sym c.is_some.ensures ∙ c.if-is_some.false)
    (then (then c.put_rect-else-is_some.ensures c.put_told-else-is_some.ensures) c.put_rect_end-else-is_some.ensures))
