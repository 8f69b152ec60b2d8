-- What the loop keeps.
use mathlib.Core.Path.{◌≡◌}
use lib.ListN.{length}
use Rattle.air_record.specs.Record.{so_far, taken_to}
use Rattle.air_record.proofs.record.take_text.Given as goal

abbrev pub invariant-loop-b : goal.invariant-loop-b
invariant-loop-b l = (so_far l.row l.scan ≡ taken_to l.text l.initial.row l.b-index) × (length l.row ≡ length l.initial.row)
