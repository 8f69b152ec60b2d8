-- What stands at a place of a part of a journal stands there in the journal: a part that begins later is read from its own start on, and bytes
-- behind one matter only to a record that would reach them.
-- Rests on the laws of lists.
use mathlib.Core.Path.{◌≡◌, refl, ap, ◌∙◌}
use mathlib.Core.List.{List, ◌++◌}
use Prim.Native.Nat.{ℕ, zero, suc, ◌+◌, ◌≤◌, ◌<◌, ◌^◌}
use native.Mathlib.Nat.{add_assoc, pow-suc}
use native.Mathlib.Omega.{arith}
use lib.Dec.{leb}
use lib.ListN.{length, drop, length-append, length-drop, get_or-append}
use lib.Seq.{drop-append-add, drop-append-le, take-append-le, get_or-append-add}
use Rattle.notice_fields.specs.Numbers.{Bytes, number_at}
use Rattle.notice_fields.proofs.Each.{same_order}
use Rattle.journal_records.specs.Records.{record_head, record_least, longest_record, payload_size, is_headed, verifies_at, found_at}

-- ---- a number, from bytes that begin later, or go on

pub number_behind : (before bs : List ℕ) (at n : ℕ) → number_at (before ++ bs) (length before + at) n ≡ number_at bs at n
unfolding number_at
number_behind before bs at zero = refl
number_behind before bs at (suc n) =
    rw (number_behind before bs at n, add_assoc (length before) at n, get_or-append-add before bs (at + n) 0)

pub number_before : (bs later : List ℕ) (at n : ℕ) → at + n ≤ length bs → number_at (bs ++ later) at n ≡ number_at bs at n
unfolding number_at
number_before bs later at zero low = refl
number_before bs later at (suc n) low =
    rw (number_before bs later at n (omega arith), get_or-append bs later 0 (at + n) (omega arith))

-- a number of n bytes fits them
pub number_fits : (bs : List ℕ) → Bytes bs → (at n : ℕ) → number_at bs at n < 256 ^ n
unfolding number_at
number_fits bs small at zero = omega arith
number_fits bs small at (suc n) = omega (arith, number_fits bs small at n, small (at + n), pow-suc 256 n)

-- ---- bytes that begin later

module _ (identity before bs : List ℕ) (p : ℕ) where
  abbrev all : List ℕ
  all = before ++ bs

  abbrev q : ℕ
  q = length before + p

  at_behind : (a n : ℕ) → number_at all (q + a) n ≡ number_at bs (p + a) n
  at_behind a n = ap (λ (k : ℕ). number_at all k n) (add_assoc (length before) p a) ∙ number_behind before bs (p + a) n

  there_behind : (n : ℕ) → leb (q + n) (length all) ≡ leb (p + n) (length bs)
  there_behind n =
      same_order (q + n) (length all) (p + n) (length bs) (λ le. omega (arith, length-append before bs)) (λ lt. omega (arith, length-append before bs))

  pub verifies_behind : verifies_at identity all q ≡ verifies_at identity bs p
  unfolding verifies_at is_headed
  verifies_behind =
      rw (
        there_behind record_least,
        number_behind before bs p 8,
        at_behind 8 1,
        at_behind 9 2,
        there_behind (record_least + payload_size bs p),
        at_behind (record_head + payload_size bs p) 4,
        drop-append-add before bs p,
      )

  pub found_behind : found_at identity all q ≡ found_at identity bs p
  unfolding found_at
  found_behind = rw (verifies_behind, number_behind before bs p 8, at_behind 8 1, at_behind 9 2)

-- ---- bytes that go on

module _ (identity bs later : List ℕ) (small : Bytes bs) (p : ℕ) (far : p + longest_record ≤ length bs) where
  abbrev both : List ℕ
  both = bs ++ later

  size_low : payload_size bs p < 256 ^ 2
  size_low = number_fits bs small (p + 9) 2

  there_before : (n : ℕ) → p + n ≤ length bs → leb (p + n) (length both) ≡ leb (p + n) (length bs)
  there_before n low =
      same_order (p + n) (length both) (p + n) (length bs) (λ le. low) (λ lt. absurd (omega (arith, length-append bs later)))

  pub verifies_before : verifies_at identity both p ≡ verifies_at identity bs p
  unfolding verifies_at is_headed
  verifies_before =
      rw (
        there_before record_least (omega arith),
        number_before bs later p 8 (omega arith),
        number_before bs later (p + 8) 1 (omega arith),
        number_before bs later (p + 9) 2 (omega arith),
        there_before (record_least + payload_size bs p) (omega (arith, size_low)),
        number_before bs later (p + (record_head + payload_size bs p)) 4 (omega (arith, size_low)),
        drop-append-le p bs later (omega arith),
        take-append-le (record_head + payload_size bs p) (drop p bs) later (rw (length-drop p bs) (omega (arith, size_low))),
      )

  pub found_before : found_at identity both p ≡ found_at identity bs p
  unfolding found_at
  found_before =
      rw (
        verifies_before,
        number_before bs later p 8 (omega arith),
        number_before bs later (p + 8) 1 (omega arith),
        number_before bs later (p + 9) 2 (omega arith),
      )
