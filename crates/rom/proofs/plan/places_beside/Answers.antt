-- `places_beside` meets its contract: the one test is that of the table's length.
use mathlib.Core.Path.{refl}
use borrow.Author.Tests.{eq-eqb, ne_eqb}
use Rattle.rom.specs.Plan.{places_beside}
use Rattle.rom.proofs.plan.places_beside.Goals as goal

pub returns-then-table-eq-ENTRIES : goal.returns-then-table-eq-ENTRIES
unfolding places_beside
returns-then-table-eq-ENTRIES c = rw (eq-eqb _ _ c.if-table-eq-ENTRIES.true) refl

pub returns : goal.returns
unfolding places_beside
returns c = rw (ne_eqb _ _ c.if-table-eq-ENTRIES.false) refl
