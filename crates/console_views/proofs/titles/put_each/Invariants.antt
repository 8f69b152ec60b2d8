-- What the loop keeps: the titles passed have their lines.
use Rattle.text.specs.Pages.{Puts}
use Rattle.console_answers.specs.Entries.{each}
use Rattle.console_views.specs.Titles.{title_line}
use Rattle.console_views.proofs.titles.put_each.Given as goal

abbrev pub invariant-loop-id : goal.invariant-loop-id
invariant-loop-id l = Puts l.initial.page (each (title_line l.s l.time) l.id) l.page
