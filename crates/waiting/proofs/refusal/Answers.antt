-- `waiting::refusal` meets its contract: the tests in their order.
use mathlib.Core.Path.{sym, ◌∙◌}
use Rattle.waiting.proofs.Answers.{pool_out, title_out, arrival_out, too_long_lem, fits}
use Rattle.waiting.proofs.refusal.Goals.{else-within-via-then-within+then-title-le-ID_MAX+else-row_ok, else-within-via-then-within+else-title-le-ID_MAX, else-within-via-else-within}
use Rattle.waiting.proofs.refusal.Goals as goal

pub returns-then-arrivals-gt-ROW_MAX : goal.returns-then-arrivals-gt-ROW_MAX
returns-then-arrivals-gt-ROW_MAX c =
    too_long_lem _ _ _ (sym c.within.ensures ∙ c.if-within.true) c.if-title-le-ID_MAX.true (sym c.row_ok.ensures ∙ c.if-row_ok.true) c.if-arrivals-gt-ROW_MAX.true

pub returns-else-arrivals-gt-ROW_MAX : goal.returns-else-arrivals-gt-ROW_MAX
returns-else-arrivals-gt-ROW_MAX c =
    fits _ _ _ (sym c.within.ensures ∙ c.if-within.true) c.if-title-le-ID_MAX.true (sym c.row_ok.ensures ∙ c.if-row_ok.true) c.if-arrivals-gt-ROW_MAX.false

pub returns-else-within : goal.returns-else-within
returns-else-within c =
    elim c.else-within.branch [
      | else-within-via-then-within+then-title-le-ID_MAX+else-row_ok w ↦ arrival_out _ _ _ (sym w.row_ok.ensures ∙ w.if-row_ok.false)
      | else-within-via-then-within+else-title-le-ID_MAX w ↦ title_out _ _ _ w.if-title-le-ID_MAX.false
      | else-within-via-else-within w ↦ pool_out _ _ _ (sym c.within.ensures ∙ w.if-within.false)
    ]
