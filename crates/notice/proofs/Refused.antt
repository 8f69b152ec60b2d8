-- Bad input gets 11 and nothing else: each way in which bytes can fail to be a notice.
-- Rests on the cases of a reading and on the field table.
use mathlib.Core.Path.{◌≡◌, refl, sym, ap, ◌∙◌}
use mathlib.Core.Bool.{Bool, true, false}
use mathlib.Core.List.{List, [], ◌∷◌, ◌++◌}
use Prim.Native.Nat.{ℕ, zero, suc, ◌+◌, ◌-◌, ◌≤◌, ◌<◌}
use native.Mathlib.Nat.{zero-add, add-suc}
use native.Mathlib.Omega.{arith}
use lib.Dec.{eqb}
use lib.ListN.{length, get_or, take, length-append, length-take, get_or-append}
use lib.Seq.{get_or-take}
use borrow.Author.Tests.{ne_eqb}
use Rattle.rules.specs.Limits.{both}
use Rattle.notice.specs.declared.Notice.{Notice}
use Rattle.notice.specs.declared.Reading.TheVariants as reading
use Rattle.notice.specs.declared.Found.{Found}
use Rattle.notice.specs.declared.Found.TheVariants as found
use Rattle.notice_fields.specs.Fields.{last_kind, open_kind, table, tag_of, size_of, is_carried, start_of, length_of, rows}
use Rattle.notice_fields.specs.Numbers.{number_at}
use Rattle.notice.specs.Encode.{kind_of, bytes_of}
use Rattle.notice.specs.Decode.{head_stands, row_stands, stands_to, kind_at, is_whole, read_at, place_after, read_of}
use Rattle.notice.specs.Log.{FitsFields}
use Rattle.notice.proofs.Bytes.{length_notice}
use Rattle.notice_fields.proofs.Each.{by_order}
use Rattle.notice_bytes.proofs.Whole.{no_kind, no_rows, no_room_lem, unknown}
use Rattle.notice.proofs.Cases.{at_none}
use Rattle.notice.proofs.RoundTrip.{kind_at_lem, past_kind}
use Rattle.notice_fields.proofs.Table.{no_kind_of}

-- ---- from the tests to the answer

-- no whole notice at a place of a log
pub refused_at : (bs : List ℕ) (p : ℕ) → p < length bs → is_whole bs p ≡ false → read_at bs p ≡ found.Malformed
refused_at bs p h w = sym (at_none bs p h w)

-- no whole notice at the start, for a reading of all
pub refused : (bs : List ℕ) → is_whole bs 0 ≡ false → read_of bs ≡ reading.Malformed
unfolding read_of
refused bs w = simp w

-- ---- each way to fail, at any place

-- a number that is no kind's
pub unknown_kind : (bs : List ℕ) (p : ℕ) → (open_kind ≤ kind_at bs p → kind_at bs p ≤ last_kind → ⊥) → is_whole bs p ≡ false
unknown_kind bs p out = unknown bs p (no_kind_of (kind_at bs p) out)

never : (a : Bool) → both a false ≡ false
never true = refl
never false = refl

-- a row that does not stand is not made up for by those after it
fallen : (bs : List ℕ) (p k i d : ℕ) → row_stands bs (p + start_of k i) k i ≡ false → stands_to bs p k (suc i + d) ≡ false
unfolding stands_to
fallen bs p k i zero h =
    let e : suc i + 0 ≡ suc i = omega arith in
    rw (e, h) (never (stands_to bs p k i))
fallen bs p k i (suc d) h = rw (add-suc, fallen bs p k i d h)

module _ (bs : List ℕ) (p i : ℕ) (row : i < rows) (has : is_carried (kind_at bs p) i ≡ true) where
  abbrev place : ℕ
  place = p + start_of (kind_at bs p) i

  no_head : head_stands bs place i ≡ false → is_whole bs p ≡ false
  unfolding row_stands
  no_head h =
      let e : suc i + (rows - suc i) ≡ rows = omega arith in
      no_rows bs p (rw e at (fallen bs p (kind_at bs p) i (rows - suc i) (rw has h)))

  -- another tag where the row's tag belongs, also one of an earlier row
  pub wrong_tag : (get_or bs place 0 ≡ tag_of i → ⊥) → is_whole bs p ≡ false
  unfolding head_stands
  wrong_tag h = no_head (simp (ne_eqb _ _ h))

  -- another length than the table's
  pub wrong_size : (number_at bs (place + 1) 2 ≡ size_of i → ⊥) → is_whole bs p ≡ false
  unfolding head_stands
  wrong_size h = no_head (simp (ne_eqb _ _ h) (never (eqb (get_or bs place 0) (tag_of i))))

-- fewer bytes left than the kind says
pub cut : (bs : List ℕ) (p : ℕ) → length bs < p + length_of (kind_at bs p) → is_whole bs p ≡ false
cut = no_room_lem

-- ---- kinds of a later release

-- where a kind with a number after the last stands, a log answers 11 and is read no further
pub later_kind : (bs : List ℕ) (p : ℕ) → p < length bs → last_kind < kind_at bs p
    → (read_at bs p ≡ found.Malformed) × (place_after (read_at bs p) p ≡ p)
later_kind bs p there late =
    let is : read_at bs p ≡ found.Malformed =
    refused_at bs p there (unknown_kind bs p (λ low high. absurd (omega arith))) in
    (is, ap (λ (f : Found). place_after f p) is)

-- ---- for a reading of all

pub empty : read_of [] ≡ reading.Malformed
unfolding table
empty = refused [] (no_kind [] 0 (omega arith))

-- a kind of a later release
pub later_alone : (bs : List ℕ) → last_kind < kind_at bs 0 → read_of bs ≡ reading.Malformed
later_alone bs late = refused bs (unknown_kind bs 0 (λ low high. absurd (omega arith)))

-- fewer or more bytes than the kind says
pub wrong_length : (bs : List ℕ) → (length_of (kind_at bs 0) ≡ length bs → ⊥) → read_of bs ≡ reading.Malformed
unfolding read_of
wrong_length bs h = simp (ne_eqb _ _ h, never (is_whole bs 0))

module _ (n : Notice) (fits : FitsFields n) where
  own_kind : kind_at (bytes_of n) 0 ≡ kind_of n.kind
  own_kind = kind_at_lem (bytes_of n) 0 n fits (λ j lt. rw zero-add) (omega arith)

  -- a written notice with any of its last bytes missing
  pub one_short : (m : ℕ) → m < length (bytes_of n) → read_of (take m (bytes_of n)) ≡ reading.Malformed
  one_short m h =
      let len : length (take m (bytes_of n)) ≡ m = length-take m (bytes_of n) ∙ omega arith in
      by_order 3 m
      (λ lt.
      let k : kind_at (take m (bytes_of n)) 0 ≡ kind_of n.kind = get_or-take m (bytes_of n) 3 0 lt ∙ own_kind in
      wrong_length (take m (bytes_of n)) (λ e. omega (arith, rw k at e, length_notice n)))
      (λ le. refused (take m (bytes_of n)) (no_kind (take m (bytes_of n)) 0 (omega arith)))

  -- a written notice with any bytes after it
  pub one_more : (x : ℕ) (xs : List ℕ) → read_of (bytes_of n ++ x ∷ xs) ≡ reading.Malformed
  one_more x xs =
      let len = length-append (bytes_of n) (x ∷ xs) in
      let k : kind_at (bytes_of n ++ x ∷ xs) 0 ≡ kind_of n.kind = get_or-append (bytes_of n) (x ∷ xs) 0 3 (past_kind n) ∙ own_kind in
      wrong_length (bytes_of n ++ x ∷ xs) (λ e. omega (arith, rw k at e, length_notice n))
