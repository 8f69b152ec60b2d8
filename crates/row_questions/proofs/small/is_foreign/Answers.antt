-- `is_foreign` meets its contract: a slot without a title is none, then the kind decides, then floor and cap.
use borrow.Author.Tests.{eq-eqb, ne_eqb}
use Rattle.row_questions.proofs.small.is_foreign.Goals as goal

pub returns-else-row-at-ne-ABSENT : goal.returns-else-row-at-ne-ABSENT
returns-else-row-at-ne-ABSENT c = simp (eq-eqb _ _ c.if-row-at-ne-ABSENT.false)

pub returns-then-row-at-eq-STEADY : goal.returns-then-row-at-eq-STEADY
returns-then-row-at-eq-STEADY c = simp (ne_eqb _ _ c.if-row-at-ne-ABSENT.true, eq-eqb _ _ c.if-row-at-eq-STEADY.true)

pub returns-else-row-at-eq-STEADY : goal.returns-else-row-at-eq-STEADY
returns-else-row-at-eq-STEADY c =
    simp (ne_eqb _ _ c.if-row-at-ne-ABSENT.true, ne_eqb _ _ c.if-row-at-eq-STEADY.false) c.is_other.ensures
