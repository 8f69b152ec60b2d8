-- Which places a window decides: the cases of a beginning from the tests that decide it, and what follows of a place that is decided,
-- or is not. Where no byte to come can make a notice, none stands in any bytes that go on from those that are there (`never_whole`).
-- Rests on the field table's bounds and on what is there where a whole notice stands.
use mathlib.Core.Path.{◌≡◌, refl, sym, ap₂, ◌∙◌}
use mathlib.Core.Bool.{Bool, false, true, ◌&&◌}
use mathlib.Core.List.{List}
use mathlib.Core.Logic.{⊎_elim}
use Prim.Native.Nat.{ℕ, zero, suc, ◌+◌, ◌*◌, ◌≤◌, ◌<◌}
use native.Mathlib.Nat.{add-zero, add_assoc}
use native.Mathlib.Omega.{arith}
use lib.Dec.{eqb, ltb}
use lib.ListN.{length, get_or}
use borrow.Author.Tests.{le-leb, lt-leb, lt-ltb, le-ltb, ltb-true, eq-eqb, eqb-true, not-true, not-false}
use Rattle.rules.specs.Limits.{both}
use Rattle.rules.specs.Refusals.{pick}
use Rattle.rules.specs.Search.{every}
use Rattle.rules.proofs.Tests.{fails, both_l, both_r}
use Rattle.rules.proofs.Search.{every_in, below_suc}
use Rattle.notice_fields.specs.declared.fields.Field.{Field}
use Rattle.notice_fields.specs.Fields.{table, field_of, tag_of, size_of, kind_row, is_carried, is_known, span_of, start_of, length_of, rows}
use Rattle.notice_fields.specs.Fields.{longest_notice}
use Rattle.notice_fields.specs.Numbers.{number_at}
use Rattle.notice_fields.proofs.Each.{by_order, false_true}
use Rattle.notice_fields.proofs.Table.{sound, longest_kind}
use Rattle.notice_bytes.specs.Standing.{head_stands, row_stands, stands_to, kind_at, is_whole}
use Rattle.notice_bytes.specs.Window.{can_be, head_begins, row_begins, is_beginning, is_decided}
use Rattle.notice_bytes.proofs.Whole.{stood}

-- ---- the cases of a beginning

-- a byte that does stand where its place is there can stand
pub can_stand : (bs : List ℕ) (at b : ℕ) → (at < length bs → get_or bs at 0 ≡ b) → can_be bs at b ≡ true
unfolding can_be
can_stand bs at b h =
    by_order at (length bs)
    (λ lt. rw (lt-leb (length bs) at lt) (eq-eqb _ _ (h lt)))
    (λ le. rw (le-leb (length bs) at le))

-- the three bytes of a head, which the table's row gives
pub and_three : (a b c : Bool) → ((a && b) && c) ≡ both a (both b c)
and_three true true c = refl
and_three true false c = refl
and_three false b c = refl

pub three_bytes : (bs : List ℕ) (p s i : ℕ) (f : Field) (t z w u r : Bool) → f ≡ field_of i
    → t ≡ can_be bs (p + s) f.tag → z ≡ can_be bs (p + (s + 1)) 0 → w ≡ can_be bs (p + (s + 2)) f.size
    → u ≡ both z w → r ≡ both t u → r ≡ head_begins bs (p + s) i
unfolding head_begins
three_bytes bs p s i f t z w u r is tag first second low all =
    let a : p + (s + 1) ≡ p + s + 1 = omega arith in
    let b : p + (s + 2) ≡ p + s + 2 = omega arith in
    all ∙ ap₂ both tag (low ∙ ap₂ both first second) ∙ rw (is, a, b)

-- before the kind's byte
pub before_kind : (bs : List ℕ) (p : ℕ) → length bs ≤ p + 3 → head_begins bs p kind_row ≡ is_beginning bs p
unfolding is_beginning
before_kind bs p h = rw (le-leb _ _ h)

-- with no byte there
pub none_there : (bs : List ℕ) (p : ℕ) → length bs ≤ p → true ≡ is_beginning bs p
unfolding head_begins
none_there bs p h =
    sym (rw (
      can_stand bs p (tag_of kind_row) (λ lt. absurd (omega arith)),
      can_stand bs (p + 1) 0 (λ lt. absurd (omega arith)),
      can_stand bs (p + 2) (size_of kind_row) (λ lt. absurd (omega arith)),
    ) at (sym (before_kind bs p (omega arith))))

-- from the kind's byte on
module _ (bs : List ℕ) (p : ℕ) (there : p + 3 < length bs) where
  pub of_kind_lem : is_beginning bs p
      ≡ both (is_known (kind_at bs p))
      (both (ltb (length bs) (p + length_of (kind_at bs p))) (every (row_begins bs p (kind_at bs p)) rows))
  unfolding is_beginning
  of_kind_lem = rw (lt-leb _ _ there)

  pub no_such_kind : is_known (kind_at bs p) ≡ false → false ≡ is_beginning bs p
  no_such_kind k = sym (of_kind_lem ∙ rw k)

  pub all_there : p + length_of (kind_at bs p) ≤ length bs → is_known (kind_at bs p) ≡ true → false ≡ is_beginning bs p
  all_there l k = sym (of_kind_lem ∙ rw (k, le-ltb _ _ l))

  pub so_far_holds : length bs < p + length_of (kind_at bs p) → is_known (kind_at bs p) ≡ true
      → every (row_begins bs p (kind_at bs p)) rows ≡ is_beginning bs p
  so_far_holds l k = sym (of_kind_lem ∙ rw (k, lt-ltb _ _ l))

-- ---- places that are decided, or are not

-- what is not decided is shorter than the longest notice
pub few_left : (over : Bool) (bs : List ℕ) (p : ℕ) → is_decided bs p over ≡ false → length bs < p + longest_notice
unfolding is_decided table start_of span_of
few_left true bs p e = false_true (sym e)
few_left false bs p e =
    by_order (p + 3) (length bs)
    (λ there.
    let k = kind_at bs p in
    let rest = both_r (is_known k) (both (ltb (length bs) (p + length_of k)) (every (row_begins bs p k) rows))
    (sym (of_kind_lem bs p there) ∙ not-false (is_beginning bs p) e) in
    let short : length bs < p + length_of k = ltb-true _ _ (both_l _ _ rest) in
    omega (arith, short, longest_kind k))
    (λ few. omega arith)

-- with no byte to follow every place is decided
pub at_end_decided : (bs : List ℕ) (p : ℕ) → is_decided bs p true ≡ true
unfolding is_decided
at_end_decided bs p = refl

-- where one is decided before the end, the bytes are no mere beginning
pub no_beginning : (bs : List ℕ) (p : ℕ) → is_decided bs p false ≡ true → is_beginning bs p ≡ false
unfolding is_decided
no_beginning bs p d = not-true (is_beginning bs p) d

-- ---- bytes that go on from those that are there

-- the three bytes of a head that stands
pub record HeadAt (bs : List ℕ) (at i : ℕ) : Type 0 where
  pub tag : get_or bs at 0 ≡ tag_of i
  pub first : get_or bs (at + 1) 0 ≡ 0
  pub second : get_or bs (at + 2) 0 ≡ size_of i

module _ (bs : List ℕ) (at i : ℕ) where
  two_bytes : number_at bs (at + 1) 2 ≡ (0 * 256 + get_or bs (at + 1) 0) * 256 + get_or bs (at + 2) 0
  unfolding number_at
  two_bytes =
      let a : at + 1 + 0 ≡ at + 1 = omega arith in
      let b : at + 1 + 1 ≡ at + 2 = omega arith in
      rw (a, b)

  pub head_at : i < rows → head_stands bs at i ≡ true → HeadAt bs at i
  unfolding head_stands
  head_at h stands =
      let size : number_at bs (at + 1) 2 ≡ size_of i =
      eqb-true _ _ (both_r (eqb (get_or bs at 0) (tag_of i)) (eqb (number_at bs (at + 1) 2) (size_of i)) stands) in
      let small = (sound i h).small in
      record {
        tag = eqb-true _ _ (both_l _ _ stands);
        first = omega (arith, size, two_bytes, small);
        second = omega (arith, size, two_bytes, small);
      }

  pub at_head : HeadAt bs at i → head_stands bs at i ≡ true
  unfolding head_stands
  at_head t =
      let size : number_at bs (at + 1) 2 ≡ size_of i = omega (arith, two_bytes, t.first, t.second) in
      simp (eq-eqb _ _ t.tag, eq-eqb _ _ size)

-- of rows that stand, the head of each that the kind carries does
pub stands_at : (bs : List ℕ) (p k m : ℕ) → stands_to bs p k m ≡ true → (i : ℕ) → i < m → is_carried k i ≡ true
    → head_stands bs (p + start_of k i) i ≡ true
unfolding stands_to row_stands
stands_at bs p k zero all i h has = absurd (omega arith)
stands_at bs p k (suc m) all i h has =
    ⊎_elim (λ lt. stands_at bs p k m (both_l _ _ all) i lt has)
    (λ e. head e (both_r (stands_to bs p k m) (pick (is_carried k m) (head_stands bs (p + start_of k m) m) true) all))
    (below_suc i m h)
  where
    head : i ≡ m → pick (is_carried k m) (head_stands bs (p + start_of k m) m) true ≡ true
        → head_stands bs (p + start_of k i) i ≡ true
    head e here = rw (← e, has) at here

-- the bytes of bs from p on stand in cs from q on
abbrev pub GoesOn : List ℕ → ℕ → List ℕ → ℕ → Type 0
GoesOn bs p cs q = (j : ℕ) → p + j < length bs → get_or bs (p + j) 0 ≡ get_or cs (q + j) 0

module _ (bs cs : List ℕ) (p q : ℕ) (same : GoesOn bs p cs q) where
  can_be_lem : (j b : ℕ) → get_or cs (q + j) 0 ≡ b → can_be bs (p + j) b ≡ true
  can_be_lem j b is = can_stand bs (p + j) b (λ lt. same j lt ∙ is)

  -- a head that stands there can stand here
  head_begins_lem : (s i : ℕ) → i < rows → head_stands cs (q + s) i ≡ true → head_begins bs (p + s) i ≡ true
  unfolding head_begins
  head_begins_lem s i h stands =
      let t = head_at cs (q + s) i h stands in
      let first = can_be_lem (s + 1) 0 (rw add_assoc at t.first) in
      let second = can_be_lem (s + 2) (size_of i) (rw add_assoc at t.second) in
      rw (can_be_lem s (tag_of i) t.tag, add_assoc p s 1, add_assoc p s 2, first) second

  -- of the rows of a notice that stands there each begins here
  row_begins_lem : (k : ℕ) → stands_to cs q k rows ≡ true → (i : ℕ) → i < rows → row_begins bs p k i ≡ true
  unfolding row_begins
  row_begins_lem k stand i h = go (is_carried k i) refl
    where
      go : (b : Bool) → is_carried k i ≡ b → pick b (head_begins bs (p + start_of k i) i) true ≡ true
      go true c = head_begins_lem (start_of k i) i h (stands_at cs q k rows stand i h c)
      go false c = refl

  -- whatever its kind, it begins with the kind's field
  first_row : (k : ℕ) → head_stands cs (q + start_of k 0) 0 ≡ true → head_begins bs p kind_row ≡ true
  unfolding start_of
  first_row k stands = rw add-zero at (head_begins_lem 0 0 (omega arith) stands)

  -- so where what is there is no beginning and not all of a notice, none stands there
  pub never_whole : is_beginning bs p ≡ false → (p + 3 < length bs → length bs < p + length_of (kind_at bs p))
      → is_whole cs q ≡ false
  never_whole none short =
      fails (is_whole cs q)
      (λ w.
      let s = stood cs q w in
      by_order (p + 3) (length bs)
      (λ there.
      let kind : kind_at bs p ≡ kind_at cs q = same 3 there in
      false_true (sym none ∙ sym (so_far_holds bs p there (short there) (rw kind s.known))
      ∙ every_in (row_begins bs p (kind_at bs p)) rows (row_begins_lem (kind_at bs p) (rw kind s.stand))))
      (λ few.
      let head = first_row (kind_at cs q) (stands_at cs q (kind_at cs q) rows s.stand 0 (omega arith) s.known) in
      false_true (sym none ∙ sym (before_kind bs p few) ∙ head)))
