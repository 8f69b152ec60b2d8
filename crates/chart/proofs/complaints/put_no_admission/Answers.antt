-- `chart::complaints::put_no_admission` meets its contract: the next admission where one follows.
use mathlib.Core.Path.{sym, ap, ◌∙◌}
use Rattle.rules.proofs.Tests.{pick_true, pick_false}
use Rattle.text.specs.Texts.{text}
use Rattle.text.proofs.Pages.{then, told_as}
use Rattle.chart.specs.Complaints.{next_words, no_admission_line}
use Rattle.chart.proofs.complaints.put_no_admission.Goals as goal

pub returns-then-found : goal.returns-then-found
unfolding text no_admission_line
returns-then-found c =
    then (then (then c.put.ensures c.put_number.ensures) c.put-2.ensures)
    (told_as (ap next_words c.next_moment.ensures ∙ sym (pick_true _ _ _ c.if-found.true)) c.put_next.ensures)

pub returns-else-found : goal.returns-else-found
unfolding text no_admission_line
returns-else-found c =
    then (then (then c.put.ensures c.put_number.ensures) c.put-2.ensures)
    (told_as (sym (pick_false _ _ _ c.if-found.false)) c.put-else-found.ensures)
