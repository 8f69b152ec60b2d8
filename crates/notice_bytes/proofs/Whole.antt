-- Whether a whole notice stands at a place, from the tests that decide it.
-- Rests on the definitions and on the table's rows lying within a notice; `rows_stand`, `whole_at` and `alone` go by these.
use mathlib.Core.Path.{◌≡◌, refl, sym, ◌∙◌}
use mathlib.Core.Bool.{Bool, true, false}
use mathlib.Core.List.{List}
use Prim.Native.Nat.{ℕ, zero, suc, ◌+◌, ◌-◌, ◌≤◌, ◌<◌}
use native.Mathlib.Nat.{add-zero, add-suc}
use native.Mathlib.Numerals.{add-one}
use native.Mathlib.Omega.{arith}
use lib.Dec.{leb}
use lib.ListN.{length, get_or-eq_default}
use borrow.Author.Tests.{le-leb, lt-leb, leb-true}
use Rattle.rules.specs.Limits.{both}
use Rattle.rules.proofs.Tests.{both_l, both_r}
use Rattle.notice_fields.specs.Fields.{table, head_size, is_known, start_of, length_of, rows}
use Rattle.notice_fields.proofs.Table.{value_inside}
use Rattle.notice_bytes.specs.Standing.{row_stands, stands_to, kind_at, is_whole}

-- with no byte where the kind stands, no kind is known
pub no_kind : (bs : List ℕ) (p : ℕ) → length bs ≤ p + 3 → is_whole bs p ≡ false
unfolding table
no_kind bs p h = simp (get_or-eq_default bs 0 h)

-- where one row does not stand, the rows up to any later one do not
none_stand : (bs : List ℕ) (p k i d : ℕ) → stands_to bs p k i ≡ false → stands_to bs p k (i + d) ≡ false
unfolding stands_to
none_stand bs p k i zero h = rw add-zero h
none_stand bs p k i (suc d) h = rw (add-suc, none_stand bs p k i d h)

-- one row more, which stands at a place, or does not
module _ (bs : List ℕ) (p k i at : ℕ) (before : stands_to bs p k i ≡ true) (here : at ≡ p + start_of k i) where
  pub row_more : row_stands bs at k i ≡ true → stands_to bs p k (i + 1) ≡ true
  unfolding stands_to
  row_more r = rw (add-one, before, ← here) r

  row_fails : row_stands bs at k i ≡ false → stands_to bs p k (suc i) ≡ false
  unfolding stands_to
  row_fails r = rw (before, ← here) r

  -- then no notice stands
  pub no_row : i < rows → row_stands bs at k i ≡ false → false ≡ stands_to bs p k rows
  no_row h r =
      let e : suc i + (rows - suc i) ≡ rows = omega arith in
      sym (rw e at (none_stand bs p k (suc i) (rows - suc i) (row_fails r)))

-- the three tests of a whole notice, in their order
pub by_rows : (bs : List ℕ) (p : ℕ) → is_known (kind_at bs p) ≡ true → p + length_of (kind_at bs p) ≤ length bs
    → is_whole bs p ≡ stands_to bs p (kind_at bs p) rows
by_rows bs p k l = simp (k, le-leb _ _ l)

pub whole : (bs : List ℕ) (p : ℕ) → is_known (kind_at bs p) ≡ true → p + length_of (kind_at bs p) ≤ length bs
    → stands_to bs p (kind_at bs p) rows ≡ true → is_whole bs p ≡ true
whole bs p k l s = by_rows bs p k l ∙ s

-- what is there where a whole notice stands
pub record Stood (bs : List ℕ) (p : ℕ) : Type 0 where
  pub known : is_known (kind_at bs p) ≡ true
  pub fits : p + length_of (kind_at bs p) ≤ length bs
  pub stand : stands_to bs p (kind_at bs p) rows ≡ true
  pub headed : head_size < length_of (kind_at bs p)

pub stood : (bs : List ℕ) (p : ℕ) → is_whole bs p ≡ true → Stood bs p
unfolding table
stood bs p w =
    let k = kind_at bs p in
    let known : is_known k ≡ true = both_l _ _ w in
    let rest = both_r (is_known k) _ w in
    let long = value_inside k 0 (omega arith) known in
    record {
      known = known;
      fits = leb-true _ _ (both_l _ _ rest);
      stand = both_r (leb (p + length_of k) (length bs)) _ rest;
      headed = omega arith;
    }

pub no_rows : (bs : List ℕ) (p : ℕ) → stands_to bs p (kind_at bs p) rows ≡ false → is_whole bs p ≡ false
no_rows bs p s = rw s (never (is_known (kind_at bs p)) (leb (p + length_of (kind_at bs p)) (length bs)))
  where
    never : (a b : Bool) → both a (both b false) ≡ false
    never true true = refl
    never true false = refl
    never false b = refl

pub no_room_lem : (bs : List ℕ) (p : ℕ) → length bs < p + length_of (kind_at bs p) → is_whole bs p ≡ false
no_room_lem bs p h = simp (lt-leb _ _ h) (never (is_known (kind_at bs p)))
  where
    never : (a : Bool) → both a false ≡ false
    never true = refl
    never false = refl

pub unknown : (bs : List ℕ) (p : ℕ) → is_known (kind_at bs p) ≡ false → is_whole bs p ≡ false
unknown bs p k = simp k
