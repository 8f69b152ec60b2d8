-- `fill` meets its contract: it writes exactly where the row has the table's length. Rests on the laws of a filled row.
use mathlib.Core.Path.{◌≡◌, refl}
use borrow.Author.Tests.{eq-eqb, ne_eqb}
use native.Mathlib.Omega.{arith}
use lib.ListN.{length}
use Rattle.rules.specs.Refusals.{done, wrong_rows}
use Rattle.plans.proofs.Row.{left_done, left_refused}
use Rattle.rom_table.specs.Table.{rom_entries, rom_entry, fill_answer}
use Rattle.rom_table.proofs.fill.Goals as goal

pub returns-then-row-eq-ENTRIES : goal.returns-then-row-eq-ENTRIES
unfolding fill_answer
returns-then-row-eq-ENTRIES c =
    let at-if = c.before.before.before.before in
    let row = at-if.args.row.now in
    let e : done ≡ fill_answer row = rw (eq-eqb (length row) rom_entries at-if.if-row-eq-ENTRIES.true) refl in
    record { answer = e; left = left_done (fill_answer row) rom_entry rom_entries row done _ e refl c.write.ensures }

pub returns : goal.returns
unfolding fill_answer
returns c =
    let row = c.args.row.now in
    let e : wrong_rows ≡ fill_answer row = rw (ne_eqb (length row) rom_entries c.if-row-eq-ENTRIES.false) refl in
    record { answer = e; left = left_refused (fill_answer row) rom_entry rom_entries row wrong_rows _ e (λ w. absurd (omega (arith, w))) refl }
