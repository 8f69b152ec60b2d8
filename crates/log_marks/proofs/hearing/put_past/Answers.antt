-- `log_marks::hearing::put_past` meets its contract: by whether the title is closing.
use mathlib.Core.Path.{refl}
use borrow.Author.Tests.{eq-eqb, ne_eqb}
use Rattle.text.proofs.Pages.{nothing}
use Rattle.log_marks.specs.Hearing.{past_marks, past_kept}
use Rattle.log_marks.proofs.hearing.put_past.Goals as goal

pub returns-then-t-eq-CLOSING : goal.returns-then-t-eq-CLOSING
unfolding past_marks past_kept
returns-then-t-eq-CLOSING c = rw (eq-eqb _ _ c.if-t-eq-CLOSING.true, ← c.title_until.ensures) c.put_ended.ensures

pub returns-else-t-eq-CLOSING : goal.returns-else-t-eq-CLOSING
unfolding past_marks past_kept
returns-else-t-eq-CLOSING c = rw (ne_eqb _ _ c.if-t-eq-CLOSING.false) record { written = nothing; kept_after = refl }
