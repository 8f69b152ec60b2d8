-- Bytes that agree from two places on read alike there. So a notice may be read from its own part of
-- a log. Which bytes of a log matter at a place is in Part.
-- Rests on the definitions of a reading, on the field table's laws, and on rows making a notice.
use mathlib.Core.Path.{◌≡◌, refl, sym, ap, ◌∙◌}
use mathlib.Core.Bool.{Bool, true, false}
use mathlib.Core.List.{List}
use Prim.Native.Nat.{ℕ, zero, suc, ◌+◌, ◌-◌, ◌≤◌, ◌<◌}
use native.Mathlib.Nat.{add_assoc, zero-add}
use native.Mathlib.Omega.{arith}
use borrow.Author.Tests.{le-leb, eq-eqb}
use lib.Dec.{leb}
use lib.ListN.{length, get_or, take, drop, length-drop}
use lib.Seq.{get_or-take, get_or-drop, length-take-le}
use Rattle.rules.specs.Limits.{both}
use Rattle.rules.specs.Refusals.{pick}
use Rattle.notice.specs.declared.Notice.{Notice}
use Rattle.notice.specs.declared.Reading.TheVariants as reading
use Rattle.notice.specs.declared.Found.TheVariants as found
use Rattle.notice_fields.specs.Fields.{size_of, is_carried, is_known, start_of, length_of, rows}
use Rattle.notice_fields.specs.Numbers.{number_at}
use Rattle.notice.specs.Encode.{kind_of, values_in}
use Rattle.notice.specs.Decode.{head_stands, row_stands, stands_to, value_at, notice_in, kind_at, is_whole}
use Rattle.notice.specs.Decode.{read_at, further, read_of}
use Rattle.rules.proofs.Tests.{both_l}
use Rattle.notice_fields.proofs.Table.{value_inside}
use Rattle.notice.proofs.Made.{Shows, notice_back, kind_same, values_same}
use Rattle.notice.proofs.NoticePlaces.{there, inside}

-- the m bytes from p on in bs are those from q on in cs
abbrev pub Agree : List ℕ → ℕ → List ℕ → ℕ → ℕ → Type 0
Agree bs p cs q m = (j : ℕ) → j < m → get_or bs (p + j) 0 ≡ get_or cs (q + j) 0

-- ---- numbers and fields

number_alike : (bs cs : List ℕ) (a b n : ℕ) → Agree bs a cs b n → number_at bs a n ≡ number_at cs b n
unfolding number_at
number_alike bs cs a b zero h = refl
number_alike bs cs a b (suc n) h = rw (number_alike bs cs a b n (λ j lt. h j (omega arith)), h n (omega arith))

inner : (bs cs : List ℕ) (p q m s n : ℕ) → Agree bs p cs q m → s + n ≤ m → Agree bs (p + s) cs (q + s) n
inner bs cs p q m s n h fits j lt =
    rw (add_assoc p s j, add_assoc q s j) (h (s + j) (omega arith))

module _ (bs cs : List ℕ) (p q k : ℕ) (same : Agree bs p cs q (length_of k)) where
  head_alike : (i : ℕ) → i < rows → is_carried k i ≡ true
      → head_stands bs (p + start_of k i) i ≡ head_stands cs (q + start_of k i) i
  unfolding head_stands
  head_alike i h has =
      let fits = value_inside k i h has in
      let tag = inner bs cs p q (length_of k) (start_of k i + 0) 1 same (omega arith) 0 (omega arith) in
      let size = number_alike bs cs (p + (start_of k i + 1)) (q + (start_of k i + 1)) 2
      (inner bs cs p q (length_of k) (start_of k i + 1) 2 same (omega arith)) in
      let a : p + (start_of k i + 0) + 0 ≡ p + start_of k i = omega arith in
      let b : q + (start_of k i + 0) + 0 ≡ q + start_of k i = omega arith in
      let t : get_or bs (p + start_of k i) 0 ≡ get_or cs (q + start_of k i) 0 = rw (a, b) at tag in
      rw (add_assoc, add_assoc, t, size)

  value_alike : (i : ℕ) → i < rows → is_carried k i ≡ true → value_at bs p k i ≡ value_at cs q k i
  unfolding value_at
  value_alike i h has =
      let fits = value_inside k i h has in
      let n = number_alike bs cs (p + (start_of k i + 3)) (q + (start_of k i + 3)) (size_of i)
      (inner bs cs p q (length_of k) (start_of k i + 3) (size_of i) same (omega arith)) in
      rw (add_assoc, add_assoc) n

  rows_alike : (i : ℕ) → i ≤ rows → stands_to bs p k i ≡ stands_to cs q k i
  unfolding stands_to row_stands
  rows_alike zero h = refl
  rows_alike (suc i) h = rw (rows_alike i (omega arith)) (ap (both (stands_to cs q k i)) (go (is_carried k i) refl))
    where
      go : (b : Bool) → is_carried k i ≡ b
          → pick b (head_stands bs (p + start_of k i) i) true ≡ pick b (head_stands cs (q + start_of k i) i) true
      go true c = head_alike i (omega arith) c
      go false c = refl

-- the rows at p have the values of the notice at q, so they make it
notice_alike : (bs cs : List ℕ) (p q k : ℕ) → is_known k ≡ true → kind_at cs q ≡ k → Agree bs p cs q (length_of k)
    → notice_in bs p k ≡ notice_in cs q k
notice_alike bs cs p q k known at h =
    let m = notice_in cs q k in
    let same : kind_of m.kind ≡ k = kind_same cs q k known in
    let shows : Shows bs p k (values_in m) =
    λ i row c. value_alike bs cs p q k h i row c ∙ values_same cs q k known at i row c in
    notice_back bs p k m same shows

-- ---- a place of a log

-- bs at p and cs at q have one kind, room for it or not alike, and its bytes
pub record Alike (bs : List ℕ) (p : ℕ) (cs : List ℕ) (q : ℕ) : Type 0 where
  pub kind : kind_at bs p ≡ kind_at cs q
  pub room : is_known (kind_at bs p) ≡ true
      → leb (p + length_of (kind_at bs p)) (length bs) ≡ leb (q + length_of (kind_at bs p)) (length cs)
  pub bytes : is_known (kind_at bs p) ≡ true → Agree bs p cs q (length_of (kind_at bs p))

module _ (bs cs : List ℕ) (p q : ℕ) (a : Alike bs p cs q) where
  whole_alike : is_whole bs p ≡ is_whole cs q
  whole_alike = rw (← a.kind) (go (is_known (kind_at bs p)) refl)
    where
      go : (b : Bool) → is_known (kind_at bs p) ≡ b
          → both b (both (leb (p + length_of (kind_at bs p)) (length bs)) (stands_to bs p (kind_at bs p) rows))
          ≡ both b (both (leb (q + length_of (kind_at bs p)) (length cs)) (stands_to cs q (kind_at bs p) rows))
      go true known = rw (a.room known, rows_alike bs cs p q (kind_at bs p) (a.bytes known) rows (omega arith))
      go false known = refl

  same_notice : is_whole bs p ≡ true → notice_in bs p (kind_at bs p) ≡ notice_in cs q (kind_at cs q)
  same_notice w =
      let known = both_l _ _ w in
      notice_alike bs cs p q (kind_at bs p) known (sym a.kind) (a.bytes known) ∙ ap (notice_in cs q) a.kind

pub found_alike : (bs cs : List ℕ) (p d : ℕ) → Alike bs p cs (d + p) → leb (length bs) p ≡ leb (length cs) (d + p)
    → read_at cs (d + p) ≡ further d (read_at bs p)
unfolding read_at
found_alike bs cs p d a ends = rw (← ends, ← whole_alike bs cs p (d + p) a) (go (leb (length bs) p) (is_whole bs p) refl)
  where
    go : (t w : Bool) → is_whole bs p ≡ w
        → pick t found.End (pick w (found.At (notice_in cs (d + p) (kind_at cs (d + p))) (d + p + length_of (kind_at cs (d + p)))) found.Malformed)
        ≡ further d (pick t found.End (pick w (found.At (notice_in bs p (kind_at bs p)) (p + length_of (kind_at bs p))) found.Malformed))
    go true w e = refl
    go false true e = rw (same_notice bs cs p (d + p) a e, a.kind, add_assoc d p (length_of (kind_at cs (d + p))))
    go false false e = refl

-- ---- a notice by itself

-- read from its own part of a log, it is the same notice
pub by_itself : (bs : List ℕ) (p : ℕ) (n : Notice) (e : ℕ) → read_at bs p ≡ found.At n e
    → read_of (take (e - p) (drop p bs)) ≡ reading.Whole n
unfolding read_of
by_itself bs p n e is =
    let t = there bs p n e is in
    let i = inside bs p n e is in
    let k = kind_at bs p in
    let cs = take (e - p) (drop p bs) in
    let size : length cs ≡ e - p = length-take-le (e - p) (drop p bs) (rw length-drop (omega arith)) in
    let at : (j : ℕ) → j < e - p → get_or bs (p + j) 0 ≡ get_or cs (0 + j) 0 =
    λ j lt. rw zero-add (sym (get_or-take (e - p) (drop p bs) j 0 lt ∙ get_or-drop p bs j 0)) in
    let long : 0 + length_of k ≤ length cs = omega (arith, t.end) in
    let fits : p + length_of k ≤ length bs = omega (arith, t.end, i.within) in
    let a : Alike bs p cs 0 =
    record {
      kind = at 3 (omega arith);
      room = λ known. le-leb _ _ fits ∙ sym (le-leb _ _ long);
      bytes = λ known j lt. at j (omega (arith, t.end));
    } in
    let one : length_of (kind_at cs 0) ≡ length cs = ap length_of (sym a.kind) ∙ omega (arith, t.end) in
    rw (← whole_alike bs cs p 0 a, t.all, eq-eqb _ _ one)
    (ap reading.Whole (sym (same_notice bs cs p 0 a t.all) ∙ t.notice))
