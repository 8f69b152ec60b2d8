-- `chart::complaints::put_beginning` meets its contract: its ways, one by one.
use mathlib.Core.Path.{sym, ◌∙◌}
use borrow.Author.Tests.{eq-eqb, ne_eqb}
use Rattle.text.proofs.Pages.{nothing}
use Rattle.chart.specs.Complaints.{beginning_line}
use Rattle.chart.proofs.complaints.put_beginning.Goals as goal

pub returns-then-not-is_now : goal.returns-then-not-is_now
unfolding beginning_line
returns-then-not-is_now c =
    rw (eq-eqb _ _ c.if-answer-eq-DONE.true, sym c.is_now.ensures ∙ c.if-not-is_now.true) c.put_no_admission.ensures

pub returns-else-not-is_now : goal.returns-else-not-is_now
unfolding beginning_line
returns-else-not-is_now c = rw (eq-eqb _ _ c.if-answer-eq-DONE.true, sym c.is_now.ensures ∙ c.if-not-is_now.false) nothing

pub returns-then-answer-eq-NOT_THERE : goal.returns-then-answer-eq-NOT_THERE
unfolding beginning_line
returns-then-answer-eq-NOT_THERE c =
    rw (ne_eqb _ _ c.if-answer-eq-DONE.false, eq-eqb _ _ c.if-answer-eq-NOT_THERE.true) c.put_never_opened.ensures

pub returns-else-answer-eq-NOT_THERE : goal.returns-else-answer-eq-NOT_THERE
unfolding beginning_line
returns-else-answer-eq-NOT_THERE c = rw (ne_eqb _ _ c.if-answer-eq-DONE.false, ne_eqb _ _ c.if-answer-eq-NOT_THERE.false) nothing
