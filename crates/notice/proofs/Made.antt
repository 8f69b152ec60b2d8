-- The cases of a notice and the table: each case's number is one that the table knows, the rows that it carries make
-- the notice, and the notice that rows make has their values, with 0 in each row that its kind does not carry. Only
-- these three, and the widths in Typed and Held, go case by case: the laws of writing and reading are over the rows.
-- Rests on the table and on the definitions of a notice's values and of what stands.
use mathlib.Core.Path.{◌≡◌, refl, sym, ap, subst, ◌∙◌}
use mathlib.Core.Bool.{true}
use mathlib.Core.List.{List, [], ◌∷◌}
use Prim.Native.Nat.{ℕ, ◌+◌, ◌<◌}
use native.Mathlib.Omega.{arith}
use lib.ListN.{get_or}
use Rattle.rules.specs.Refusals.{pick}
use Rattle.notice.specs.declared.Notice.{Notice}
use Rattle.notice.specs.declared.Kind.{Kind}
use Rattle.notice.specs.declared.Kind.TheVariants.{Open, Change, Close, Hold, Lift, Skip}
use Rattle.notice_fields.specs.Fields.{table, sequence_row, title_row, time_row, length_row, floor_row, cap_row, count_row}
use Rattle.notice_fields.specs.Fields.{rows, is_carried, is_known, start_of}
use Rattle.notice_fields.specs.Numbers.{number_at}
use Rattle.notice.specs.Encode.{kind_of, data_in, values_in}
use Rattle.notice.specs.Decode.{value_at, kind_in, notice_in, kind_at}
use Rattle.notice_fields.proofs.Each.{each}
use Rattle.notice_fields.proofs.Table.{by_kind}

-- ---- case by case

-- every kind is known
pub kind_known : (d : Kind) → is_known (kind_of d) ≡ true
unfolding table
kind_known (Open l a k n) = refl
kind_known (Change n) = refl
kind_known Close = refl
kind_known Hold = refl
kind_known Lift = refl
kind_known (Skip l n) = refl

-- each row that kind k carries has at place p the value that vs has for it
abbrev pub Shows : List ℕ → ℕ → ℕ → List ℕ → Type 0
Shows bs p k vs = (i : ℕ) → i < rows → is_carried k i ≡ true → value_at bs p k i ≡ get_or vs i 0

-- the data of a kind comes back from the values of its rows
kind_back : (bs : List ℕ) (p : ℕ) (d : Kind) (s t u : ℕ) → Shows bs p (kind_of d) (kind_of d ∷ s ∷ t ∷ u ∷ data_in d)
    → kind_in bs p (kind_of d) ≡ d
unfolding kind_in table
kind_back bs p (Open l a k n) s t u v =
    simp (
      v length_row (omega arith) refl,
      v floor_row (omega arith) refl,
      v cap_row (omega arith) refl,
      v count_row (omega arith) refl,
    )
kind_back bs p (Change n) s t u v = simp (v count_row (omega arith) refl)
kind_back bs p Close s t u v = refl
kind_back bs p Hold s t u v = refl
kind_back bs p Lift s t u v = refl
kind_back bs p (Skip l n) s t u v = simp (v length_row (omega arith) refl, v count_row (omega arith) refl)

module _ (bs : List ℕ) (p : ℕ) where
  -- the value of row i at place p, 0 where kind k has no such row
  abbrev has : ℕ → ℕ → ℕ
  has k i = pick (is_carried k i) (value_at bs p k i) 0

  abbrev all_of : ℕ → List ℕ
  all_of k =
      k ∷ has k sequence_row ∷ has k title_row ∷ has k time_row
      ∷ has k length_row ∷ has k floor_row ∷ has k cap_row ∷ has k count_row ∷ []

  -- the notice that the rows of a kind make has that kind's number, and these values
  made : (k : ℕ) → is_known k ≡ true → values_in (notice_in bs p k) ≡ all_of k
  unfolding notice_in kind_in table
  made = by_kind (λ (k : ℕ). values_in (notice_in bs p k) ≡ all_of k) (refl, (refl, (refl, (refl, (refl, refl)))))

-- ---- over the rows

-- a kind's number is the value of its first row
pub first_value : (bs : List ℕ) (p k : ℕ) → value_at bs p k 0 ≡ kind_at bs p
unfolding value_at number_at start_of table
first_value bs p k =
    let e : p + 0 + 3 + 0 ≡ p + 3 = omega arith in
    rw e (omega arith)

-- rows with a notice's values make that notice
own_back : (bs : List ℕ) (p : ℕ) (n : Notice) → Shows bs p (kind_of n.kind) (values_in n)
    → notice_in bs p (kind_of n.kind) ≡ n
unfolding notice_in table
own_back bs p n v =
    let known = kind_known n.kind in
    simp (
      v sequence_row (omega arith) known,
      v title_row (omega arith) known,
      v time_row (omega arith) known,
      kind_back bs p n.kind n.sequence n.title n.time v,
    )

pub notice_back : (bs : List ℕ) (p k : ℕ) (n : Notice) → kind_of n.kind ≡ k → Shows bs p k (values_in n)
    → notice_in bs p k ≡ n
notice_back bs p k n is v =
    ap (notice_in bs p) (sym is) ∙ own_back bs p n (subst (λ (j : ℕ). Shows bs p j (values_in n)) (sym is) v)

module _ (bs : List ℕ) (p k : ℕ) (known : is_known k ≡ true) where
  -- the notice that rows make is of their kind
  pub kind_same : kind_of (notice_in bs p k).kind ≡ k
  kind_same = ap (λ (vs : List ℕ). get_or vs 0 0) (made bs p k known)

  abbrev Same : ℕ → Type 0
  Same i = is_carried k i ≡ true → value_at bs p k i ≡ get_or (all_of bs p k) i 0

  -- and has their values
  pub values_same : kind_at bs p ≡ k → Shows bs p k (values_in (notice_in bs p k))
  values_same at i row carries =
      let one : (j : ℕ) → is_carried k j ≡ true → value_at bs p k j ≡ has bs p k j = λ j c. rw c in
      let first : Same 0 = λ c. first_value bs p k ∙ at in
      each Same rows ((((((((tt, first), one 1), one 2), one 3), one 4), one 5), one 6), one 7) i row carries
      ∙ sym (ap (λ (vs : List ℕ). get_or vs i 0) (made bs p k known))
