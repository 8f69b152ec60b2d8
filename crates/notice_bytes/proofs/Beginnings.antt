-- What is the beginning of a notice becomes one: with the rest of any whole notice behind it, of its kind where that is there. So no
-- place is decided later than its bytes allow.
-- Rests on the bytes of a head, and on a notice standing row by row.
use mathlib.Core.Path.{◌≡◌, refl, sym, ◌∙◌}
use mathlib.Core.Bool.{Bool, true, false}
use mathlib.Core.List.{List, ◌++◌}
use Prim.Native.Nat.{ℕ, zero, suc, ◌+◌, ◌-◌, ◌≤◌, ◌<◌}
use native.Mathlib.Nat.{add-zero, zero-add, add_assoc}
use native.Mathlib.Omega.{arith}
use lib.Dec.{ltb}
use lib.ListN.{length, get_or, drop, length-append, length-drop, get_or-append}
use lib.Seq.{get_or-append-add, get_or-drop}
use borrow.Author.Tests.{lt-leb, eqb-true}
use Rattle.rules.specs.Limits.{both}
use Rattle.rules.specs.Refusals.{pick}
use Rattle.rules.specs.Search.{every}
use Rattle.rules.proofs.Tests.{both_l, both_r}
use Rattle.rules.proofs.Search.{every_out}
use Rattle.notice_fields.specs.Fields.{table, tag_of, size_of, is_carried, is_known, span_of, start_of, length_of, rows}
use Rattle.notice_fields.proofs.Each.{by_order}
use Rattle.notice_fields.proofs.Table.{start_grows}
use Rattle.notice_bytes.specs.Standing.{head_stands, row_stands, stands_to, kind_at, is_whole}
use Rattle.notice_bytes.specs.Window.{can_be, head_begins, row_begins, is_beginning}
use Rattle.notice_bytes.proofs.Whole.{stood, whole}
use Rattle.notice_bytes.proofs.Decided.{can_stand, before_kind, of_kind_lem, head_at, at_head, stands_at}

-- ---- every row of a beginning begins, of any known kind where the kind is not there

-- a row behind the first stands behind the kind
behind_kind : (k i : ℕ) → is_known k ≡ true → 4 ≤ start_of k (suc i)
unfolding start_of span_of table
behind_kind k i known =
    let e : 1 + i ≡ suc i = omega arith in
    let grows : start_of k 1 ≤ start_of k (1 + i) = start_grows k 1 i in
    let first : start_of k 1 ≡ 4 = rw known in
    omega (arith, rw e at grows, first)

module _ (bs : List ℕ) (p k : ℕ) (begins : is_beginning bs p ≡ true) (known : is_known k ≡ true)
    (same : p + 3 < length bs → kind_at bs p ≡ k) where
  -- a head that is not there can stand
  none_of_it : (at i : ℕ) → length bs ≤ at → head_begins bs at i ≡ true
  unfolding head_begins
  none_of_it at i h =
      rw (
        can_stand bs at (tag_of i) (λ lt. absurd (omega arith)),
        can_stand bs (at + 1) 0 (λ lt. absurd (omega arith)),
        can_stand bs (at + 2) (size_of i) (λ lt. absurd (omega arith)),
      )

  -- before the kind's byte only the first row is there
  row_early : (i : ℕ) → length bs ≤ p + 3 → head_begins bs (p + start_of k i) i ≡ true
  unfolding start_of
  row_early zero few = rw add-zero (before_kind bs p few ∙ begins)
  row_early (suc i) few = none_of_it (p + start_of k (suc i)) (suc i) (omega (arith, behind_kind k i known))

  row_late : (i : ℕ) → i < rows → p + 3 < length bs → row_begins bs p k i ≡ true
  row_late i h there =
      let j = kind_at bs p in
      let short = ltb (length bs) (p + length_of j) in
      let rest = both_r (is_known j) (both short (every (row_begins bs p j) rows)) (sym (of_kind_lem bs p there) ∙ begins) in
      rw (← same there) (every_out (row_begins bs p j) rows i (both_r short (every (row_begins bs p j) rows) rest) h)

  row_of : (i : ℕ) → i < rows → is_carried k i ≡ true → head_begins bs (p + start_of k i) i ≡ true
  unfolding row_begins
  row_of i h has = by_order (p + 3) (length bs) (λ there. rw has at (row_late i h there)) (λ few. row_early i few)

-- ---- the rest of a whole notice behind it

-- a byte that can stand does, where it is there
stands : (bs : List ℕ) (at b : ℕ) → can_be bs at b ≡ true → at < length bs → get_or bs at 0 ≡ b
unfolding can_be
stands bs at b can lt = eqb-true _ _ (rw (lt-leb (length bs) at lt) at can)

module _ (bs : List ℕ) (p : ℕ) (ws : List ℕ) (low : p ≤ length bs) where
  -- the bytes with that rest
  abbrev grown : List ℕ
  grown = bs ++ drop (length bs - p) ws

  -- a byte of the notice that can stand does in the whole
  grown_at : (j b : ℕ) → can_be bs (p + j) b ≡ true → get_or ws j 0 ≡ b → get_or grown (p + j) 0 ≡ b
  grown_at j b can is =
      by_order (p + j) (length bs)
      (λ lt. get_or-append bs (drop (length bs - p) ws) 0 (p + j) lt ∙ stands bs (p + j) b can lt)
      (λ le.
      let n = length bs - p in
      let m = j - n in
      let there : p + j ≡ length bs + m = omega arith in
      let on : n + m ≡ j = omega arith in
      rw there (get_or-append-add bs (drop n ws) m 0 ∙ get_or-drop n ws m 0 ∙ rw on is))

  head_grown : (s i : ℕ) → i < rows → head_begins bs (p + s) i ≡ true → head_stands ws s i ≡ true
      → head_stands grown (p + s) i ≡ true
  unfolding head_begins
  head_grown s i h begins stand =
      let t = head_at ws s i h stand in
      let rest = both_r (can_be bs (p + s) (tag_of i)) (both (can_be bs (p + s + 1) 0) (can_be bs (p + s + 2) (size_of i))) begins in
      let first : can_be bs (p + (s + 1)) 0 ≡ true = rw (← add_assoc) (both_l _ _ rest) in
      let second : can_be bs (p + (s + 2)) (size_of i) ≡ true =
      rw (← add_assoc) (both_r (can_be bs (p + s + 1) 0) (can_be bs (p + s + 2) (size_of i)) rest) in
      at_head grown (p + s) i
      (record {
        tag = grown_at s (tag_of i) (both_l _ _ begins) t.tag;
        first = rw add_assoc (grown_at (s + 1) 0 first t.first);
        second = rw add_assoc (grown_at (s + 2) (size_of i) second t.second);
      })

  module _ (begins : is_beginning bs p ≡ true) (w : is_whole ws 0 ≡ true)
      (same : p + 3 < length bs → kind_at bs p ≡ kind_at ws 0) (short : length bs < p + length_of (kind_at ws 0)) where
    rows_grown : (i : ℕ) → i ≤ rows → stands_to grown p (kind_at ws 0) i ≡ true
    unfolding stands_to row_stands
    rows_grown zero h = refl
    rows_grown (suc i) h = rw (rows_grown i (omega arith)) (go (is_carried (kind_at ws 0) i) refl)
      where
        go : (b : Bool) → is_carried (kind_at ws 0) i ≡ b
            → pick b (head_stands grown (p + start_of (kind_at ws 0) i) i) true ≡ true
        go true c =
            let k = kind_at ws 0 in
            let s = stood ws 0 w in
            head_grown (start_of k i) i h (row_of bs p k begins s.known same i h c)
            (rw zero-add at (stands_at ws 0 k rows s.stand i h c))
        go false c = refl

    -- the kind is the notice's
    kind_grown : kind_at grown p ≡ kind_at ws 0
    kind_grown =
        grown_at 3 (kind_at ws 0) (can_stand bs (p + 3) (kind_at ws 0) (λ there. same there)) refl

    -- a beginning becomes a notice
    pub becomes : is_whole grown p ≡ true
    becomes =
        let k = kind_at ws 0 in
        let s = stood ws 0 w in
        let n = length bs - p in
        let long : p + length_of k ≤ length grown =
        omega (arith, length-append bs (drop n ws), length-drop n ws, s.fits) in
        whole grown p (rw kind_grown s.known) (rw kind_grown long) (rw kind_grown (rows_grown rows (omega arith)))
