-- `waits::lines::put_lines` meets its contract: the report's six lines, or the refusal's one.
use borrow.Author.Tests.{eq-eqb, ne_eqb}
use Rattle.text.specs.Texts.{text}
use Rattle.text.proofs.Pages.{then}
use Rattle.waits.specs.Lines.{report_text}
use Rattle.waits.proofs.lines.put_lines.Goals as goal

pub returns-then-answer-eq-DONE : goal.returns-then-answer-eq-DONE
unfolding report_text
returns-then-answer-eq-DONE c = rw (eq-eqb _ _ c.if-answer-eq-DONE.true) (then c.put_counts.ensures c.put_waits.ensures)

pub returns-else-answer-eq-DONE : goal.returns-else-answer-eq-DONE
unfolding report_text text
returns-else-answer-eq-DONE c = rw (ne_eqb _ _ c.if-answer-eq-DONE.false) (then c.put_refusal.ensures c.put.ensures)
