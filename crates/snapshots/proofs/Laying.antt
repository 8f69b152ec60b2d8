-- What the loops of `save` and `load` have laid after so many numbers, and what `save` leaves: the bytes of the numbers, and behind
-- them their sum. Rests on runs of stores and on the bytes of a row.
use mathlib.Core.Path.{◌≡◌, sym, ◌∙◌}
use mathlib.Core.List.{List, ◌++◌, append-nil}
use Prim.Native.Nat.{ℕ, ◌+◌, ◌*◌, ◌≤◌, ◌<◌}
use native.Mathlib.Numerals.{add-one}
use native.Mathlib.Omega.{arith}
use lib.ListN.{length, get_or, take, drop, set, length-append, length-drop}
use lib.Seq.{sets, take_at, length-take-le, drop-length}
use Rattle.notice_fields.specs.Numbers.{big_endian}
use Rattle.notice_fields.proofs.Digits.{length_big}
use Rattle.notice_fields.proofs.Stores.{sets_append, laid}
use Rattle.sums.specs.Crc.{sum_of}
use Rattle.snapshots.specs.Bytes.{saved_places, summed_size, sum_size, snapshot_size, number_bytes, snapshot_of, saved_number, numbers_in}
use Rattle.snapshots.proofs.Numbers.{length_numbers, length_in, one_more, one_stored}

-- a number stored behind the bytes of those before it
pub one_laid : (row l : List ℕ) (i : ℕ) → i < length row
    → sets (sets l 0 (number_bytes (take i row))) (i * 8) (big_endian 8 (get_or row i 0)) ≡ sets l 0 (number_bytes (take (i + 1) row))
one_laid row l i h =
    let e : 0 + length (number_bytes (take i row)) ≡ i * 8 =
    omega (arith, length_numbers (take i row), length-take-le i row (omega arith)) in
    sym (rw (add-one, one_more row i h) (sets_append (number_bytes (take i row)) l (big_endian 8 (get_or row i 0)) 0 ∙ rw e))

-- numbers at the start of a row, and the places after them
pub length_over : (bs l : List ℕ) (i : ℕ) → i ≤ length l → length (numbers_in bs i ++ drop i l) ≡ length l
length_over bs l i h = omega (arith, length-append (numbers_in bs i) (drop i l), length_in bs i, length-drop i l)

pub one_over : (bs l : List ℕ) (i v : ℕ) → i < length l → v ≡ saved_number bs i
    → set (numbers_in bs i ++ drop i l) i v ≡ numbers_in bs (i + 1) ++ drop (i + 1) l
one_over bs l i v h is = rw (add-one, is) (one_stored bs l i h)

pub all_over : (bs l : List ℕ) → numbers_in bs (length l) ++ drop (length l) l ≡ numbers_in bs (length l)
all_over bs l = rw drop-length (append-nil (numbers_in bs (length l)))

-- ---- the whole

pub length_snapshot : (row : List ℕ) → length row ≡ saved_places → length (snapshot_of row) ≡ snapshot_size
unfolding snapshot_of
length_snapshot row is =
    let sum = big_endian sum_size (sum_of (number_bytes row)) in
    omega (arith, length-append (number_bytes row) sum, length_numbers row, length_big sum_size (sum_of (number_bytes row)))

module _ (row room : List ℕ) (is : length row ≡ saved_places) (long : snapshot_size ≤ length room) where
  laid_size : length (number_bytes row) ≡ summed_size
  laid_size = omega (arith, length_numbers row)

  -- what is summed is the bytes of the numbers
  pub summed : take summed_size (sets room 0 (number_bytes row)) ≡ number_bytes row
  summed =
      rw (laid (number_bytes row) room (omega (arith, laid_size)))
      (take_at (number_bytes row) (drop (length (number_bytes row)) room) summed_size laid_size)

  -- with their sum behind them they are the snapshot
  pub saved : sets (sets room 0 (number_bytes row)) summed_size (big_endian sum_size (sum_of (number_bytes row))) ≡ snapshot_of row ++ drop snapshot_size room
  unfolding snapshot_of
  saved =
      let sum = big_endian sum_size (sum_of (number_bytes row)) in
      let e : 0 + length (number_bytes row) ≡ summed_size = omega (arith, laid_size) in
      let all = length_snapshot row is in
      sym (sets_append (number_bytes row) room sum 0 ∙ rw e)
      ∙ (laid (snapshot_of row) room (omega arith) ∙ rw all)
