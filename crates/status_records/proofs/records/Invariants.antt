-- What the loop keeps: the records passed are filled in.
use mathlib.Core.Path.{◌≡◌}
use Rattle.status_records.specs.Records.{record_for}
use Rattle.status_records.proofs.Rows.{filled_to}
use Rattle.status_records.proofs.records.Given as goal

abbrev pub invariant-loop-r : goal.invariant-loop-r
invariant-loop-r l = l.rows ≡ filled_to (record_for l.s l.time) l.initial.rows l.r-index
