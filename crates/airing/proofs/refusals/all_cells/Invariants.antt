-- What the loop keeps: its value is the test of every number passed.
use mathlib.Core.Path.{◌≡◌}
use lib.Dec.{ltb, eqb}
use lib.ListN.{get_or}
use Rattle.rules.specs.Limits.{either}
use Rattle.rules.specs.Search.{every}
use Rattle.judging.specs.Record.{nothing_seen}
use Rattle.airing.proofs.refusals.all_cells.Given as goal

abbrev pub invariant-loop-seen : goal.invariant-loop-seen
invariant-loop-seen l = l.ok ≡ every (λ j. either (eqb (get_or l.«record» j 0) nothing_seen) (ltb (get_or l.«record» j 0) l.cells)) l.seen-index
