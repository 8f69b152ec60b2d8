-- `far` meets its contract, by its tests. Rests on the order of numbers.
use mathlib.Core.Path.{◌≡◌}
use Prim.Native.Nat.{ℕ, ◌+◌, ◌-◌, ◌<◌}
use native.Mathlib.Omega.{arith}
use lib.Dec.{leb}
use Rattle.notice_fields.specs.Fields.{table, start_of, span_of}
use Rattle.notice_fields.proofs.Each.{same_order}
use Rattle.journals.specs.Start.{is_far}
use Rattle.journals.proofs.far.far.Goals as goal

left : (n size p : ℕ) → 0 < n → leb n (size - p) ≡ leb (p + n) size
left n size p some = same_order n (size - p) (p + n) size (λ le. omega arith) (λ lt. omega arith)

pub returns-then-over : goal.returns-then-over
unfolding is_far
returns-then-over c = rw c.if-over.true

-- the code's number of bytes of the longest notice is the table's
pub returns-else-over : goal.returns-else-over
unfolding is_far table start_of span_of
returns-else-over c = rw (c.if-over.false, c.saturating_sub.ensures) (left _ _ _ (omega arith))
