-- `rom_answer` meets its contract: each way out decides whether floor and cap are the box's.
-- Rests on the laws of the two ways.
use mathlib.Core.Path.{sym, ◌∙◌}
use Rattle.rom.proofs.Planned.{plan_own, plan_other}
use Rattle.rom.proofs.plan.rom_answer.Goals as goal

pub returns-then-is_other : goal.returns-then-is_other
returns-then-is_other c =
    let a = c.args in
    sym (plan_other a.floor a.cap a.count a.arrival a.places (sym c.is_other.ensures ∙ c.if-is_other.true))

pub returns : goal.returns
returns c =
    let a = c.args in
    c.answer.ensures
    ∙ sym (plan_own a.floor a.cap a.count a.arrival a.places (sym c.is_other.ensures ∙ c.if-is_other.false))
