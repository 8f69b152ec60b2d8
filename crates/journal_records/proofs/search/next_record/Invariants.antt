-- What the loop keeps, and what falls.
use Prim.Native.Nat.{ℕ, ◌≤◌, ◌<◌}
use mathlib.Core.Path.{◌≡◌}
use mathlib.Core.Bool.{false}
use Rattle.journal_records.specs.Records.{verifies_at}
use Rattle.journal_records.proofs.search.next_record.Given as goal

abbrev pub invariant-loop-at : goal.invariant-loop-at
invariant-loop-at l = (q : ℕ) → l.from ≤ q → q < l.at → verifies_at l.identity l.bytes q ≡ false
