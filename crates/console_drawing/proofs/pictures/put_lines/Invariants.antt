-- What the loop keeps: the lanes passed have their lines.
use Rattle.text.specs.Pages.{Puts}
use Rattle.console_answers.specs.Entries.{each}
use Rattle.console_drawing.specs.Pictures.{sign_line}
use Rattle.console_drawing.proofs.pictures.put_lines.Given as goal

abbrev pub invariant-loop-lane : goal.invariant-loop-lane
invariant-loop-lane l = Puts l.initial.page (each (sign_line l.t l.tick) l.lane) l.page
