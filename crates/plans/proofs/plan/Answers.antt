-- `plans::plan` meets its contract: it fills the row exactly where its answer is done.
-- Rests on the laws of refusals and of the row.
use mathlib.Core.Path.{refl, sym, ◌∙◌}
use lib.ListN.{length}
use Rattle.rules.proofs.Told.{some_number}
use Rattle.plans.specs.Row.{plan_row}
use Rattle.plans.proofs.padded.Refusals.{accepted_only}
use Rattle.plans.proofs.Row.{left_done, left_refused}
use Rattle.plans.proofs.plan.Goals as goal

pub returns-in-Err : goal.returns-in-Err
unfolding plan_row
returns-in-Err c =
    let e = c.number.ensures ∙ c.in-Err.ensures in
    record { answer = e; left = left_refused _ _ _ _ _ _ e (λ z. some_number c.in-Err.refusal (sym c.number.ensures ∙ z)) refl }

pub fill-requires : goal.fill-requires
fill-requires c =
    let a = c.args in
    let t = accepted_only a.floor a.cap a.count a.arrival (length a.row.now) (sym c.in_default.ensures) in
    record { counted = t.count; arrival_value = t.start; arrival_le_asked_max = (t.arrival, t.room) }

pub returns : goal.returns
unfolding plan_row
returns c = record { answer = c.in_default.ensures; left = left_done _ _ _ _ _ _ c.in_default.ensures refl c.fill.ensures }
