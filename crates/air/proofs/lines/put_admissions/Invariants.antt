-- What the loop keeps.
use mathlib.Core.Path.{◌≡◌}
use Rattle.rules.specs.Search.{how_many}
use Rattle.text.specs.Pages.{Puts}
use Rattle.air.specs.inner.Steps.{is_marked, marked_lines}
use Rattle.air.proofs.lines.put_admissions.Given as goal

abbrev pub invariant-loop-tick : goal.invariant-loop-tick
invariant-loop-tick l = (l.j ≡ how_many (is_marked l.marks) l.tick)
    × Puts l.initial.page (marked_lines l.marks l.row l.judged l.tick) l.page
