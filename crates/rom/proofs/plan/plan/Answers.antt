-- `plan` meets its contract: it fills the row exactly where its answer is done.
-- Rests on the laws of the call's two ways.
use mathlib.Core.Path.{refl, sym, ap, ◌∙◌}
use lib.ListN.{length}
use Rattle.rules.proofs.Told.{some_number}
use Rattle.rom.specs.Plan.{rom_plan_answer, table_plan_answer}
use Rattle.rom.proofs.Planned.{table_accepted, table_done, table_refused}
use Rattle.rom.proofs.plan.plan.Goals as goal

pub returns-in-Err : goal.returns-in-Err
unfolding table_plan_answer
returns-in-Err c =
    let a = c.args in
    let answer = c.number.ensures ∙ c.in-Err.ensures ∙ ap (rom_plan_answer a.floor a.cap a.count a.arrival) c.places_beside-places.ensures in
    table_refused a.table.now a.floor a.cap a.count a.arrival a.row.now c.number.result _ answer
    (λ z. some_number c.in-Err.refusal (sym c.number.ensures ∙ z)) refl

pub fill-requires : goal.fill-requires
unfolding table_plan_answer
fill-requires c =
    let a = c.args in
    let answer = c.in_default.ensures ∙ ap (rom_plan_answer a.floor a.cap a.count a.arrival) c.places_beside-places.ensures in
    let t = table_accepted a.table.now a.floor a.cap a.count a.arrival (length a.row.now) (sym answer) in
    record { table_len = t.long; count_le_rom_cap = (t.count, t.room); arrival_le_asked_max = t.arrival }

pub returns : goal.returns
unfolding table_plan_answer
returns c =
    let a = c.args in
    let answer = c.in_default.ensures ∙ ap (rom_plan_answer a.floor a.cap a.count a.arrival) c.places_beside-places.ensures in
    table_done a.table.now a.floor a.cap a.count a.arrival a.row.now 0 _ answer refl c.fill.ensures
