-- What holds of every row of the field table, by one test that is computed over the whole table.
-- Rests on the table alone: a new row or bit that keeps the test keeps every law above it.
use mathlib.Core.Path.{◌≡◌, refl, sym, ◌∙◌}
use mathlib.Core.Bool.{Bool, true, false}
use mathlib.Core.List.{List, [], ◌∷◌}
use Prim.Native.Nat.{ℕ, zero, suc, ◌+◌, ◌*◌, ◌-◌, ◌≤◌, ◌<◌, ◌^◌, ◌/◌, ◌%◌}
use native.Mathlib.Nat.{le_of_suc-le-suc, not-suc-le-zero, div-eq_of_lt, lt_of_lt_of_le, add-suc, add-zero}
use native.Mathlib.Omega.{arith}
use lib.Dec.{eqb, leb, ltb}
use lib.ListN.{length, get_or}
use lib.Pow.{pow_mono}
use borrow.Author.Tests.{leb-true, ltb-true, eqb-true}
use Rattle.rules.specs.Limits.{both}
use Rattle.rules.specs.Refusals.{pick}
use Rattle.rules.proofs.Tests.{both_l, both_r}
use Rattle.notice_fields.specs.declared.fields.Field.{Field}
use Rattle.notice_fields.specs.Fields.{last_kind, table, rows, field_row, field_of, is_carried, is_known, span_of, start_of, length_of}
use Rattle.notice_fields.specs.Fields.{open_kind, change_kind, close_kind, hold_kind, lift_kind, skip_kind, longest_notice}
use Rattle.notice_fields.proofs.Each.{by_order, each, false_true}

-- the test passes at every row of a list
every : (Field → Bool) → List Field → Bool
every t [] = true
every t (x ∷ xs) = both (t x) (every t xs)

at : (t : Field → Bool) (xs : List Field) → every t xs ≡ true → (i : ℕ) → i < length xs
    → t (get_or xs i (field_row 0 0 0)) ≡ true
unfolding every
at t [] e i h = absurd (not-suc-le-zero h)
at t (x ∷ xs) e zero h = both_l _ _ e
at t (x ∷ xs) e (suc i) h = at t xs (both_r (t x) _ e) i (le_of_suc-le-suc h)

-- a row's tag and its bits fit a byte, and its value fits the 64 bits in which values are handled
pub record Sound (f : Field) : Type 0 where
  pub small : f.size ≤ 8
  pub tagged : f.tag < 256
  pub bits : f.kinds < 256

soundly : Field → Bool
soundly f = both (leb f.size 8) (both (ltb f.tag 256) (ltb f.kinds 256))

pub sound : (i : ℕ) → i < rows → Sound (field_of i)
unfolding table soundly every
sound i h =
    let t : soundly (field_of i) ≡ true = at soundly table refl i h in
    record {
      small = leb-true _ _ (both_l _ _ t);
      tagged = ltb-true _ _ (both_l _ _ (both_r (leb (field_of i).size 8) _ t));
      bits = ltb-true _ _ (both_r (ltb (field_of i).tag 256) _ (both_r (leb (field_of i).size 8) _ t));
    }

-- ---- kinds

-- a row whose bits lie below kind m is carried by no kind from m on
beyond : (i m k : ℕ) → (field_of i).kinds < 2 ^ m → m ≤ k → is_carried k i ≡ false
beyond i m k below far =
    let top : 2 ^ m ≤ 2 ^ k = pow_mono far in
    let none : (field_of i).kinds / 2 ^ k ≡ 0 = div-eq_of_lt (lt_of_lt_of_le below top) in
    rw none

-- the table has no bit for a kind from 8 on
pub no_bit : (k i : ℕ) → i < rows → 8 ≤ k → is_carried k i ≡ false
no_bit k i h far = beyond i 8 k (sound i h).bits far

-- no other number is a kind's
pub no_kind_of : (k : ℕ) → (open_kind ≤ k → k ≤ last_kind → ⊥) → is_known k ≡ false
unfolding table
no_kind_of k out =
    by_order k open_kind
    (λ none. let e : k ≡ 0 = omega arith in rw e)
    (λ some. by_order last_kind k (λ far. beyond 0 (suc last_kind) k (omega arith) far) (λ le. absurd (out some le)))

-- nor does such a number carry any row
kinds_only : Field → Bool
kinds_only f = both (ltb f.kinds (2 ^ suc last_kind)) (eqb (f.kinds / 2 ^ 0 % 2) 0)

no_row_of : (k i : ℕ) → i < rows → (open_kind ≤ k → k ≤ last_kind → ⊥) → is_carried k i ≡ false
unfolding table kinds_only every
no_row_of k i h out =
    let t : kinds_only (field_of i) ≡ true = at kinds_only table refl i h in
    let below = ltb (field_of i).kinds (2 ^ suc last_kind) in
    by_order k open_kind
    (λ none.
    let e : k ≡ 0 = omega arith in
    let even : (field_of i).kinds / 2 ^ 0 % 2 ≡ 0 = eqb-true _ _ (both_r below _ t) in
    rw (e, even))
    (λ some. by_order last_kind k (λ far. beyond i (suc last_kind) k (ltb-true _ _ (both_l below _ t)) far) (λ le. absurd (out some le)))

-- a fact of each kind, in the order of their numbers
abbrev pub OfKinds : (ℕ → Type 0) → Type 0
OfKinds P = P open_kind × (P change_kind × (P close_kind × (P hold_kind × (P lift_kind × P skip_kind))))

-- is a fact of every kind that the table knows: only eight could have a bit
pub by_kind : (P : ℕ → Type 0) → OfKinds P → (k : ℕ) → is_known k ≡ true → P k
unfolding table
by_kind P (a, (b, (c, (d, (f, g))))) k e =
    by_order k 8
    (λ lt.
    each (λ (j : ℕ). is_known j ≡ true → P j) 8
    ((((((((tt, false_true), (λ _. a)), (λ _. b)), (λ _. c)), (λ _. d)), (λ _. f)), (λ _. g)), false_true) k lt e)
    (λ far. false_true (sym (no_bit k 0 (omega arith) far) ∙ e))

-- ---- places

pub span_small : (k i : ℕ) → i < rows → span_of k i ≤ 11
unfolding span_of
span_small k i h = go (is_carried k i)
  where
    go : (b : Bool) → pick b (3 + (field_of i).size) 0 ≤ 11
    go true = omega (arith, sound i h)
    go false = omega arith

pub start_small : (k i : ℕ) → i ≤ rows → start_of k i ≤ 11 * i
unfolding start_of
start_small k zero h = omega arith
start_small k (suc i) h = omega (arith, start_small k i (omega arith), span_small k i (omega arith))

-- what a row takes before another one, and what all of them do
abbrev pub before : ℕ → ℕ → ℕ → ℕ
before k i r = pick (ltb i r) (span_of k i) 0

abbrev pub all_before : ℕ → ℕ → ℕ
all_before k r =
    before k 0 r + before k 1 r + before k 2 r + before k 3 r + before k 4 r + before k 5 r + before k 6 r + before k 7 r

-- a place is that sum
pub start_sum : (k r : ℕ) → r ≤ rows → all_before k r ≡ start_of k r
unfolding start_of
start_sum k r h =
    each (λ (m : ℕ). all_before k m ≡ start_of k m) 9
    (((((((((tt, refl), omega arith), omega arith), omega arith), omega arith), omega arith), omega arith), omega arith), omega arith)
    r (omega arith)

-- a number that is no kind's has no notice
pub no_start : (k i : ℕ) → i ≤ rows → (open_kind ≤ k → k ≤ last_kind → ⊥) → start_of k i ≡ 0
unfolding start_of span_of
no_start k zero h out = refl
no_start k (suc i) h out = rw (no_start k i (omega arith) out, no_row_of k i h out)

-- a row ends no later than the rows up to any later one
pub start_grows : (k i d : ℕ) → start_of k i ≤ start_of k (i + d)
unfolding start_of
start_grows k i zero = rw add-zero (omega arith)
start_grows k i (suc d) = rw add-suc (omega (arith, start_grows k i d))

-- so every row lies within a notice of its kind
pub row_inside : (k i : ℕ) → i < rows → start_of k i + span_of k i ≤ length_of k
unfolding start_of
row_inside k i h =
    let e : suc i + (rows - suc i) ≡ rows = omega arith in
    rw e at (start_grows k (suc i) (rows - suc i))

-- with its head and its value, where the kind carries it
pub value_inside : (k i : ℕ) → i < rows → is_carried k i ≡ true → start_of k i + (3 + (field_of i).size) ≤ length_of k
unfolding span_of
value_inside k i h has = rw has at (row_inside k i h)

-- an open carries the row
opened : Field → Bool
opened f = eqb (f.kinds / 2 ^ open_kind % 2) 1

-- it carries them all
open_carries : (i : ℕ) → i < rows → is_carried open_kind i ≡ true
unfolding table opened every
open_carries i h = at opened table refl i h

-- so no row of any kind stands later than in an open, and no notice is longer
start_most : (k i : ℕ) → i ≤ rows → start_of k i ≤ start_of open_kind i
unfolding start_of span_of
start_most k zero h = omega arith
start_most k (suc i) h =
    rw (open_carries i h) (omega (arith, start_most k i (omega arith), go (is_carried k i)))
  where
    go : (b : Bool) → pick b (3 + (field_of i).size) 0 ≤ 3 + (field_of i).size
    go true = omega arith
    go false = omega arith

pub longest_kind : (k : ℕ) → length_of k ≤ longest_notice
longest_kind k = start_most k rows (omega arith)
