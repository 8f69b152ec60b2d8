-- What reads as a notice writes back as the same bytes, so no two strings of bytes read as one notice.
-- Rests on the notice that rows make having their values, on bytes at a place, and on the cases of a reading.
use mathlib.Core.Path.{◌≡◌, refl, sym, ap, subst, ◌∙◌}
use mathlib.Core.Bool.{Bool, true, false}
use mathlib.Core.List.{List, [], ◌∷◌, ◌++◌}
use Prim.Native.Nat.{ℕ, zero, suc, ◌+◌, ◌-◌, ◌≤◌}
use native.Mathlib.Nat.{add-zero}
use native.Mathlib.Omega.{arith}
use lib.Dec.{eqb}
use lib.ListN.{length, get_or, take, drop}
use lib.Seq.{take_all}
use borrow.Author.Tests.{eqb-true}
use Rattle.rules.specs.Refusals.{pick}
use Rattle.notice.specs.declared.Notice.{Notice}
use Rattle.notice.specs.declared.Reading.TheVariants as reading
use Rattle.notice.specs.declared.Found.{Found}
use Rattle.notice.specs.declared.Found.TheVariants as found
use Rattle.notice_fields.specs.Fields.{tag_of, size_of, is_carried, start_of, length_of, rows}
use Rattle.notice_fields.specs.Numbers.{big_endian, number_at}
use Rattle.notice.specs.Encode.{kind_of, values_in, field_bytes, row_bytes, bytes_to, bytes_of}
use Rattle.notice.specs.Decode.{head_stands, row_stands, stands_to, value_at, notice_in, kind_at, read_at}
use Rattle.notice.specs.Decode.{read_of}
use Rattle.notice.specs.Log.{Bytes}
use Rattle.rules.proofs.Tests.{both_l, both_r}
use Rattle.notice_bytes.proofs.Whole.{stood}
use Rattle.notice.proofs.Made.{Shows, kind_same, values_same}
use Rattle.notice.proofs.NoticePlaces.{there}
use Rattle.notice.proofs.Alike.{by_itself}
use Rattle.notice_fields.proofs.Digits.{length_big}
use Rattle.notice_bytes.proofs.Laid.{length_bytes}
use Rattle.notice.proofs.Bytes.{length_notice}
use Rattle.notice.proofs.Has.{Has, has_both, has_part, bytes_back}
use Rattle.notice.proofs.Cases.{only, alone}

-- ---- one field

-- where a head stands, the field of the value that stands after it stands
field_stands : (bs : List ℕ) → Bytes bs → (at i : ℕ) → head_stands bs at i ≡ true
    → Has bs at (field_bytes i (number_at bs (at + 3) (size_of i)))
unfolding head_stands field_bytes
field_stands bs small at i stands =
    let v = number_at bs (at + 3) (size_of i) in
    let tag : get_or bs at 0 ≡ tag_of i = eqb-true _ _ (both_l _ _ stands) in
    let size : number_at bs (at + 1) 2 ≡ size_of i = eqb-true _ _ (both_r (eqb (get_or bs at 0) (tag_of i)) _ stands) in
    let e : at + 1 + length (big_endian 2 (size_of i)) ≡ at + 3 = omega (arith, length_big 2 (size_of i)) in
    has_both bs at (tag_of i ∷ []) (big_endian 2 (size_of i) ++ big_endian (size_of i) v)
    (one at tag)
    (has_both bs (at + 1) (big_endian 2 (size_of i)) (big_endian (size_of i) v)
    (rw size at (bytes_back bs small (at + 1) 2))
    (rw e (bytes_back bs small (at + 3) (size_of i))))
  where
    one : (a : ℕ) {x : ℕ} → get_or bs a 0 ≡ x → Has bs a (x ∷ [])
    one a h zero lt = rw add-zero h
    one a h (suc j) lt = absurd (omega arith)

-- ---- all rows of a kind

module _ (bs : List ℕ) (small : Bytes bs) (p k : ℕ) (vs : List ℕ)
    (same : Shows bs p k vs) where
  rows_stand : (i : ℕ) → i ≤ rows → stands_to bs p k i ≡ true → Has bs p (bytes_to k vs i)
  unfolding stands_to row_stands bytes_to row_bytes value_at
  rows_stand zero h s = λ j lt. absurd (omega arith)
  rows_stand (suc i) h s =
      has_both bs p (bytes_to k vs i) (pick (is_carried k i) (field_bytes i (get_or vs i 0)) [])
      (rows_stand i (omega arith) (both_l _ _ s))
      (rw length_bytes (go (is_carried k i) refl (both_r (stands_to bs p k i) _ s)))
    where
      go : (b : Bool) → is_carried k i ≡ b → pick b (head_stands bs (p + start_of k i) i) true ≡ true
          → Has bs (p + start_of k i) (pick b (field_bytes i (get_or vs i 0)) [])
      go true c t = rw (← same i h c) (field_stands bs small (p + start_of k i) i t)
      go false c t = λ j lt. absurd (omega arith)

-- ---- the theorems

-- what a log that gives a notice at a place has there
pub record Stands (bs : List ℕ) (p : ℕ) (n : Notice) (e : ℕ) : Type 0 where
  pub has : Has bs p (bytes_of n)
  pub after : e ≡ p + length (bytes_of n)
  pub inside : e ≤ length bs

as_notice : (bs : List ℕ) (p k : ℕ) (m : Notice) → kind_of m.kind ≡ k → Has bs p (bytes_to k (values_in m) rows)
    → Has bs p (bytes_of m)
unfolding bytes_of
as_notice bs p k m same h = subst (λ (q : ℕ). Has bs p (bytes_to q (values_in m) rows)) (sym same) h

-- where a log gives a notice, that notice's bytes stand, and the place after it is where they end
pub read_stands : (bs : List ℕ) → Bytes bs → (p : ℕ) (n : Notice) (e : ℕ) → read_at bs p ≡ found.At n e → Stands bs p n e
read_stands bs small p n e is =
    let f = there bs p n e is in
    let k = kind_at bs p in
    let m = notice_in bs p k in
    let s = stood bs p f.all in
    let there = rows_stand bs small p k (values_in m) (values_same bs p k s.known refl) rows (omega arith) s.stand in
    let same = kind_same bs p k s.known in
    let made : Stands bs p m (p + length_of k) =
    record { has = as_notice bs p k m same there; after = sym (rw (length_notice, same)); inside = s.fits } in
    rw (f.notice, f.end) at made

-- what reads as a notice in a log is that notice's bytes
pub read_writes_at : (bs : List ℕ) → Bytes bs → (p : ℕ) (n : Notice) (e : ℕ) → read_at bs p ≡ found.At n e
    → take (length (bytes_of n)) (drop p bs) ≡ bytes_of n
read_writes_at bs small p n e is =
    let s = read_stands bs small p n e is in
    has_part bs p (bytes_of n) (omega (arith, s.after, s.inside)) s.has

-- so a notice that a log gives reads back from its own bytes
pub read_alone : (bs : List ℕ) → Bytes bs → (p : ℕ) (n : Notice) (e : ℕ) → read_at bs p ≡ found.At n e
    → read_of (bytes_of n) ≡ reading.Whole n
read_alone bs small p n e is =
    let s = read_stands bs small p n e is in
    let size : e - p ≡ length (bytes_of n) = omega (arith, s.after) in
    let part : take (e - p) (drop p bs) ≡ bytes_of n = rw size (read_writes_at bs small p n e is) in
    ap read_of (sym part) ∙ by_itself bs p n e is

whole_at : (len : ℕ) (n : Notice) (f : Found) → only len f ≡ reading.Whole n → f ≡ found.At n len
unfolding only
whole_at len n (found.At m e) h = go (eqb e len) refl h
  where
    go : (b : Bool) → eqb e len ≡ b → pick b (reading.Whole m) reading.Malformed ≡ reading.Whole n
        → found.At m e ≡ found.At n len
    go true s t = cc (eqb-true e len s)
    go false s t = absurd (let z : ◌≡◌ {A = ℕ} 0 1 = cc in omega arith)
whole_at len n found.End h = absurd (let z : ◌≡◌ {A = ℕ} 0 1 = cc in omega arith)
whole_at len n found.Malformed h = absurd (let z : ◌≡◌ {A = ℕ} 0 1 = cc in omega arith)

-- alone, what reads as a notice stands at the start of a log that ends with it
pub alone_at : (bs : List ℕ) (n : Notice) → read_of bs ≡ reading.Whole n → read_at bs 0 ≡ found.At n (length bs)
alone_at bs n is = whole_at (length bs) n (read_at bs 0) (sym (alone bs) ∙ is)

-- and so its bytes are all that was read
pub read_writes : (bs : List ℕ) → Bytes bs → (n : Notice) → read_of bs ≡ reading.Whole n → bytes_of n ≡ bs
read_writes bs small n is =
    let s = read_stands bs small 0 n (length bs) (alone_at bs n is) in
    let long : length bs ≤ length (bytes_of n) = omega (arith, s.after) in
    sym (read_writes_at bs small 0 n (length bs) (alone_at bs n is)) ∙ take_all (length (bytes_of n)) bs long

-- no two strings of bytes read as one notice, and none reads as two
pub one_string : (bs cs : List ℕ) → Bytes bs → Bytes cs → (n : Notice) → read_of bs ≡ reading.Whole n
    → read_of cs ≡ reading.Whole n → bs ≡ cs
one_string bs cs b c n p q = sym (read_writes bs b n p) ∙ read_writes cs c n q

pub one_notice : (bs : List ℕ) (m n : Notice) → read_of bs ≡ reading.Whole m → read_of bs ≡ reading.Whole n → m ≡ n
one_notice bs m n p q = cc
