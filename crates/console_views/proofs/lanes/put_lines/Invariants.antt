-- What the loop keeps: the lanes passed have their lines.
use Rattle.text.specs.Pages.{Puts}
use Rattle.console_answers.specs.Entries.{each}
use Rattle.console_views.specs.Lanes.{lane_line}
use Rattle.console_views.proofs.lanes.put_lines.Given as goal

abbrev pub invariant-loop-lane : goal.invariant-loop-lane
invariant-loop-lane l = Puts l.initial.page (each (lane_line l.s l.id l.time l.tick l.ticks) l.lane) l.page
