-- `log_boxes::put_found` meets its contract: the picture at an admission, nothing at another moment, else the refusal.
use mathlib.Core.Path.{sym, ◌∙◌}
use native.Mathlib.Omega.{arith}
use Rattle.text.proofs.Pages.{told_as, nothing}
use Rattle.log_boxes.proofs.Texts.{begins_text, waits_text, refused_text}
use Rattle.log_boxes.proofs.put_found.Goals as goal

pub returns-then-answer-ne-DONE : goal.returns-then-answer-ne-DONE
returns-then-answer-ne-DONE c =
    told_as (refused_text _ _ _ _ _ c.beginning_of-found.ensures c.if-answer-ne-DONE.true) c.put_refused.ensures

pub draw-requires : goal.draw-requires
draw-requires c = sym c.beginning_of-found.ensures.answers ∙ c.if-answer-ne-DONE.false

pub returns-then-is_now : goal.returns-then-is_now
returns-then-is_now c =
    told_as
    (begins_text _ _ _ _ (λ j. omega (arith, c.shared_slice_known-1.given j)) _ c.beginning_of-found.ensures c.if-answer-ne-DONE.false (sym c.is_now.ensures ∙ c.if-is_now.true))
    c.draw.ensures

pub returns-else-is_now : goal.returns-else-is_now
returns-else-is_now c =
    told_as
    (waits_text _ _ _ _ (λ j. omega (arith, c.shared_slice_known-1.given j)) _ c.beginning_of-found.ensures c.if-answer-ne-DONE.false (sym c.is_now.ensures ∙ c.if-is_now.false))
    nothing
