-- What the loop keeps, and what falls.
use mathlib.Core.Path.{◌≡◌}
use lib.Seq.{sets}
use Rattle.notice_fields.specs.Fields.{start_of}
use Rattle.notice_bytes.specs.Laying.{bytes_to}
use Rattle.notice_bytes.proofs.laying.put_rows.Given as goal

abbrev pub invariant-loop-i : goal.invariant-loop-i
invariant-loop-i l = (l.at ≡ start_of l.kind l.i) × (l.room ≡ sets l.initial.room 0 (bytes_to l.kind l.values l.i))
