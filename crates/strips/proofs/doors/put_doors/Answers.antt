-- `strips::doors::put_doors` meets its contract: by whether the doors were held, and are.
use mathlib.Core.Path.{refl}
use borrow.Author.Tests.{eq-eqb, ne_eqb}
use Rattle.text.proofs.Pages.{nothing}
use Rattle.strips.specs.Doors.{doors_mark, doors_kept}
use Rattle.strips.proofs.doors.put_doors.Goals as goal

pub returns-then-not-held : goal.returns-then-not-held
unfolding doors_mark doors_kept
returns-then-not-held c = rw (eq-eqb _ _ c.if-t-eq-HELD.true, c.if-not-held.true, ← c.kept_in-j.ensures.is) c.put_held.ensures

pub returns-else-not-held : goal.returns-else-not-held
unfolding doors_mark doors_kept
returns-else-not-held c = rw (eq-eqb _ _ c.if-t-eq-HELD.true, c.if-not-held.false) record { written = nothing; kept_after = refl }

pub returns-then-held : goal.returns-then-held
unfolding doors_mark doors_kept
returns-then-held c =
    rw (ne_eqb _ _ c.if-t-eq-HELD.false, c.if-held.true, ← c.kept_in-j.ensures.is) record { written = nothing; kept_after = refl }

pub returns-else-held : goal.returns-else-held
unfolding doors_mark doors_kept
returns-else-held c = rw (ne_eqb _ _ c.if-t-eq-HELD.false, c.if-held.false) record { written = nothing; kept_after = refl }
