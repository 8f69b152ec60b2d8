-- What the loop keeps.
use lib.ListN.{get_or}
use Rattle.text.specs.Pages.{Puts}
use Rattle.playouts.specs.Lines.{number_lines}
use Rattle.playouts.proofs.lines.put_numbers.Given as goal

abbrev pub invariant-loop-j : goal.invariant-loop-j
invariant-loop-j l = Puts l.initial.page (number_lines (λ j. get_or l.numbers j 0) l.j) l.page
