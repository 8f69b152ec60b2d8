-- What the loop keeps, and what falls.
use Prim.Native.Nat.{◌+◌}
use mathlib.Core.Path.{◌≡◌}
use mathlib.Core.Bool.{true}
use Rattle.notice_fields.specs.Fields.{start_of}
use Rattle.notice_bytes.specs.Standing.{stands_to}
use Rattle.notice_bytes.proofs.standing.rows_stand.Given as goal

abbrev pub invariant-loop-i : goal.invariant-loop-i
invariant-loop-i l = (l.at ≡ l.place + start_of l.kind l.i) × (stands_to l.bytes l.place l.kind l.i ≡ true)
