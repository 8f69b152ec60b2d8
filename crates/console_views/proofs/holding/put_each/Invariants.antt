-- What the loop keeps: the lanes passed are written.
use Rattle.text.specs.Pages.{Puts}
use Rattle.console_answers.specs.Entries.{each}
use Rattle.console_views.specs.Titles.{sending_text}
use Rattle.console_views.proofs.holding.put_each.Given as goal

abbrev pub invariant-loop-lane : goal.invariant-loop-lane
invariant-loop-lane l = Puts l.initial.page (each (sending_text l.t l.time) l.lane) l.page
