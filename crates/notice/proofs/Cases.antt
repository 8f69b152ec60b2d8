-- Which case a reading is, from the tests that decide it.
-- Rests on the definitions alone; `read_at` and the theorems go by these.
use mathlib.Core.Path.{◌≡◌, refl}
use mathlib.Core.Bool.{Bool, true, false}
use mathlib.Core.List.{List, [], ◌∷◌}
use Prim.Native.Nat.{ℕ, ◌+◌, ◌≤◌, ◌<◌}
use native.Mathlib.Nat.{zero-add}
use native.Mathlib.Omega.{arith}
use lib.Dec.{eqb}
use lib.ListN.{length}
use borrow.Author.Tests.{le-leb, lt-leb}
use Rattle.rules.specs.Limits.{both}
use Rattle.rules.specs.Refusals.{pick}
use Rattle.notice.specs.declared.Notice.{Notice}
use Rattle.notice.specs.declared.Reading.{Reading}
use Rattle.notice.specs.declared.Reading.TheVariants as reading
use Rattle.notice.specs.declared.Found.{Found}
use Rattle.notice.specs.declared.Found.TheVariants as found
use Rattle.notice_fields.specs.Fields.{table, length_of}
use Rattle.notice.specs.Decode.{notice_in, kind_at, is_whole, read_at, read_of}

pub at_end : (bs : List ℕ) (p : ℕ) → length bs ≤ p → found.End ≡ read_at bs p
unfolding read_at
at_end bs p h = simp (le-leb _ _ h)

pub at_whole : (bs : List ℕ) (p : ℕ) → p < length bs → is_whole bs p ≡ true
    → found.At (notice_in bs p (kind_at bs p)) (p + length_of (kind_at bs p)) ≡ read_at bs p
unfolding read_at
at_whole bs p h w = simp (lt-leb _ _ h, w)

pub at_none : (bs : List ℕ) (p : ℕ) → p < length bs → is_whole bs p ≡ false → found.Malformed ≡ read_at bs p
unfolding read_at
at_none bs p h w = simp (lt-leb _ _ h, w)

-- a reading from what a log has at its start
unfoldable pub only : ℕ → Found → Reading
only len (found.At n e) = pick (eqb e len) (reading.Whole n) reading.Malformed
only len found.End = reading.Malformed
only len found.Malformed = reading.Malformed

picks : (w : Bool) (len e : ℕ) (n : Notice)
    → pick (both w (eqb e len)) (reading.Whole n) reading.Malformed
    ≡ only len (pick w (found.At n (0 + e)) found.Malformed)
unfolding only
picks true len e n = rw zero-add
picks false len e n = refl

pub alone : (bs : List ℕ) → read_of bs ≡ only (length bs) (read_at bs 0)
unfolding read_of read_at only table
alone [] = refl
alone (b ∷ bs) = simp (lt-leb (length (b ∷ bs)) 0 (omega arith)) (picks (is_whole (b ∷ bs) 0) _ _ _)
