-- `console_views::titles::put_told` meets its contract: the lines of a question that is answered, or the refusal.
use mathlib.Core.Path.{sym}
use mathlib.Core.Bool.{true}
use borrow.Author.Tests.{ne_eqb, leb-true}
use Rattle.rules.proofs.Told.{some_number}
use Rattle.questions.proofs.Asked.{asked_state, asked_time}
use Rattle.console_views.specs.Titles.{titles_told}
use Rattle.console_views.proofs.titles.put_told.Goals as goal

pub put_lines-requires : goal.put_lines-requires
put_lines-requires c =
    let x = c.args in
    let none = sym c.in-Ok.ensures in
    record { s_value = asked_state x.s x.time true none; time_le_asked_max = leb-true _ _ (asked_time x.s x.time true none) }

pub returns-in-Ok : goal.returns-in-Ok
unfolding titles_told
returns-in-Ok c = rw (← c.in-Ok.ensures) c.put_lines.ensures

pub returns-in-Err : goal.returns-in-Err
unfolding titles_told
returns-in-Err c =
    rw (← c.in-Err.ensures, ne_eqb _ _ (some_number c.in-Err.refusal)) (rw c.number.ensures at c.put_refusal.ensures)
