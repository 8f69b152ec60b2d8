-- What was saved loads as the same row, and bytes that load are what saving that row writes: a row has one snapshot, and a snapshot one
-- row. Rests on numbers and bytes that come back, and on the checksum fitting its bytes.
use mathlib.Core.Path.{◌≡◌, sym, ap, ◌∙◌}
use mathlib.Core.Bool.{true}
use mathlib.Core.List.{List}
use Prim.Native.Nat.{ℕ, ◌+◌}
use native.Mathlib.Nat.{zero-add}
use native.Mathlib.Omega.{arith}
use lib.Dec.{eqb}
use lib.ListN.{length, take, drop, length-drop, take-append-drop}
use lib.Seq.{take_at, take_all}
use borrow.Author.Tests.{eq-eqb, eqb-true}
use Rattle.rules.specs.Refusals.{first_hit}
use Rattle.rules.proofs.Tests.{both_l, both_r}
use Rattle.notice_fields.specs.Numbers.{Bytes, big_endian, number_at}
use Rattle.notice_fields.proofs.Digits.{length_big}
use Rattle.notice_fields.proofs.Has.{Has, has_left, has_right, has_part, number_back, bytes_back}
use Rattle.sums.specs.Crc.{sum_of}
use Rattle.sums.proofs.Small.{sum_small}
use Rattle.snapshots.specs.Bytes.{saved_places, saved_version, summed_size, sum_size, snapshot_size, number_bytes, snapshot_of, saved_number, numbers_in}
use Rattle.snapshots.specs.Bytes.{is_snapshot, AgentRow}
use Rattle.snapshots.specs.Calls.{Loads}
use Rattle.snapshots.proofs.Answered.{fitting_size}
use Rattle.snapshots.proofs.Laying.{length_snapshot}
use Rattle.snapshots.proofs.Numbers.{length_numbers, bytes_numbers, number_comes, row_comes, bytes_come}

-- ---- what was saved

module _ (row : List ℕ) (r : AgentRow row) where
  all : Has (snapshot_of row) 0 (snapshot_of row)
  all j lt = rw zero-add

  abbrev sum : ℕ
  sum = sum_of (number_bytes row)

  size : length (number_bytes row) ≡ summed_size
  size = omega (arith, length_numbers row, r.places)

  numbers_there : Has (snapshot_of row) 0 (number_bytes row)
  unfolding snapshot_of
  numbers_there = has_left (snapshot_of row) 0 (number_bytes row) (big_endian sum_size sum) all

  sum_there : Has (snapshot_of row) summed_size (big_endian sum_size sum)
  unfolding snapshot_of
  sum_there =
      let e : 0 + length (number_bytes row) ≡ summed_size = omega (arith, size) in
      rw e at (has_right (snapshot_of row) 0 (number_bytes row) (big_endian sum_size sum) all)

  summed_there : take summed_size (snapshot_of row) ≡ number_bytes row
  unfolding snapshot_of
  summed_there = take_at (number_bytes row) (big_endian sum_size sum) summed_size size

  sum_right : number_at (snapshot_of row) summed_size sum_size ≡ sum_of (take summed_size (snapshot_of row))
  sum_right = number_back (snapshot_of row) summed_size sum_size sum (sum_small (number_bytes row) (bytes_numbers row)) sum_there ∙ rw summed_there

  version_right : saved_number (snapshot_of row) 0 ≡ saved_version
  version_right = number_comes (snapshot_of row) row r.small numbers_there 0 (omega (arith, r.places)) ∙ r.version

  -- it is a snapshot
  pub saved_fits : is_snapshot (snapshot_of row) ≡ true
  unfolding is_snapshot
  saved_fits = rw (eq-eqb _ _ (length_snapshot row r.places), eq-eqb _ _ sum_right, eq-eqb _ _ version_right)

  -- and its numbers are the row
  pub saved_loads : numbers_in (snapshot_of row) saved_places ≡ row
  saved_loads = ap (numbers_in (snapshot_of row)) (sym r.places) ∙ row_comes (snapshot_of row) row r.small numbers_there

  -- so a load of it into any row of an agent's length is done and leaves that row
  pub comes_back : (lent : List ℕ) (answer : ℕ) (after : List ℕ) → length lent ≡ saved_places
      → Loads (snapshot_of row) lent answer after → (answer ≡ 0) × (after ≡ row)
  unfolding first_hit
  comes_back lent answer after is l =
      let answered : answer ≡ 0 = l.answers ∙ rw (eq-eqb _ _ is, saved_fits) in
      (answered, l.leaves ∙ rw answered saved_loads)

-- ---- what loads

module _ (bs : List ℕ) (bytes : Bytes bs) (fits : is_snapshot bs ≡ true) where
  sized : length bs ≡ snapshot_size
  sized = fitting_size bs fits

  summed : number_at bs summed_size sum_size ≡ sum_of (take summed_size bs)
  unfolding is_snapshot
  summed = eqb-true _ _ (both_l _ _ (both_r (eqb (length bs) snapshot_size) _ fits))

  numbers : number_bytes (numbers_in bs saved_places) ≡ take summed_size bs
  numbers = bytes_come bs bytes saved_places (omega (arith, sized))

  last : big_endian sum_size (number_at bs summed_size sum_size) ≡ drop summed_size bs
  last =
      let w = big_endian sum_size (number_at bs summed_size sum_size) in
      let long = length_big sum_size (number_at bs summed_size sum_size) in
      let part : take sum_size (drop summed_size bs) ≡ w =
      rw long at (has_part bs summed_size w (omega (arith, long, sized)) (bytes_back bs bytes summed_size sum_size)) in
      sym part ∙ take_all sum_size (drop summed_size bs) (omega (arith, length-drop summed_size bs, sized))

  -- bytes that load are the snapshot of the row that they load as
  pub loaded_saves : snapshot_of (numbers_in bs saved_places) ≡ bs
  unfolding snapshot_of
  loaded_saves = rw (numbers, ← summed, last) (take-append-drop summed_size bs)
