-- `air::lines::put_report` meets its contract: the admissions' lines and three in all, or the refusal's one.
use borrow.Author.Tests.{eq-eqb, ne_eqb}
use Rattle.text.specs.Texts.{text}
use Rattle.text.proofs.Pages.{then}
use Rattle.air.specs.inner.Steps.{air_report}
use Rattle.air.proofs.lines.put_report.Goals as goal

pub returns-then-answer-eq-DONE : goal.returns-then-answer-eq-DONE
unfolding air_report
returns-then-answer-eq-DONE c = rw (eq-eqb _ _ c.if-answer-eq-DONE.true) (then c.put_admissions.ensures c.put_totals.ensures)

pub returns-else-answer-eq-DONE : goal.returns-else-answer-eq-DONE
unfolding air_report text
returns-else-answer-eq-DONE c = rw (ne_eqb _ _ c.if-answer-eq-DONE.false) (then c.put_refusal.ensures c.put.ensures)
