-- `playouts::window::tell` meets its contract: the numbers are filled in, and told.
use native.Mathlib.Omega.{arith}
use Rattle.text.proofs.Pages.{told_as}
use Rattle.playouts.proofs.Answers.{limits_in, from_high, text_inside}
use Rattle.playouts.proofs.window.tell.Goals as goal

pub fill-answer-requires : goal.fill-answer-requires
fill-answer-requires c = let start = c in record { title_value = limits_in _ _ _ _ start.requires.ticks_value; row_to_fill = record { soon = from_high _ _ _ _ start.requires.ticks_value; short = omega (arith, start.requires.whole_ticks.long, start.requires.whole_ticks.few) }; whole_ticks = start.requires.whole_ticks }

pub returns : goal.returns
returns c =
    let x = c.args in
    told_as
    (text_inside x.pool x.log.now x.title x.from x.ticks c.requires.ticks_value x.numbers.now c.requires.whole_ticks.long _ _ c.fill-answer.ensures)
    c.put_told.ensures
