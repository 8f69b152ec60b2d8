-- One look at every title, a place at a time; what it means that the rows fit; and each refusal in its turn.
-- Rests on induction over the rows.
use mathlib.Core.Path.{◌≡◌, refl, sym, ap, ◌∙◌}
use mathlib.Core.Bool.{Bool, true, false}
use mathlib.Core.List.{List, [], ◌∷◌, ◌++◌}
use mathlib.Core.Logic.{◌⊎◌, inl, inr}
use Prim.Native.Nat.{ℕ, zero, suc, ◌+◌, ◌≤◌, ◌<◌}
use native.Mathlib.Omega.{arith}
use native.Mathlib.Numerals.{add-one}
use lib.ListN.{length, drop, drop_of_length-le}
use lib.Dec.{leb, eqb}
use lib.Seq.{drop-cons}
use borrow.Author.Tests.{eqb-true, leb-true, lt-ltb, le-ltb, ne_eqb}
use Rattle.rules.specs.Limits.{both, within, pool_min, pool_max, rate_min, rate_max, length_min, length_max}
use Rattle.rules.specs.Limits.{floor_min, floor_max, count_min, titles_max}
use Rattle.rules.specs.Refusals.{first_hit, done, wrong_rows, outside_limits, floor_above_cap, no_lanes}
use Rattle.rules.proofs.Tests.{decide, both_l, both_r}
use Rattle.sharing_titles.specs.declared.titles.Rated.{Rated}
use Rattle.sharing_titles.specs.Titles.{rated_title, titles, unrated, row_total, SameLengths}
use Rattle.sharing.specs.Verdict.{each_title, allowed, ordered, rows_fit, verdict_of, row_after}
use Rattle.sharing_choice.specs.Choice.{shared}
use Rattle.sharing_titles.specs.inner.Weighing.{Weighable, Sound}
use Rattle.sharing_choice.proofs.Order.{side}

-- ---- one look at every title

both_assoc : (a b c : Bool) → both (both a b) c ≡ both a (both b c)
both_assoc true b c = refl
both_assoc false b c = refl

both_all : (a : Bool) → both a true ≡ a
both_all true = refl
both_all false = refl

module _ (p : Rated → Bool) (ts : List Rated) where
  -- what is known after the titles before i, with what the others will add
  pub passed_next : (a b : Bool) (i : ℕ) → i < length ts → b ≡ both a (p (rated_title ts i))
      → both a (each_title p (drop i ts)) ≡ each_title p ts
      → both b (each_title p (drop (i + 1) ts)) ≡ each_title p ts
  unfolding each_title
  passed_next a b i h e f =
      rw (e, add-one)
      (both_assoc a (p (rated_title ts i)) (each_title p (drop (suc i) ts))
      ∙ sym (ap (λ l. both a (each_title p l)) (drop-cons ts i unrated h))
      ∙ f)

  pub passed_all : (a : Bool) (i : ℕ) → length ts ≤ i → both a (each_title p (drop i ts)) ≡ each_title p ts
      → a ≡ each_title p ts
  unfolding each_title
  passed_all a i h f = sym (both_all a) ∙ sym (ap (λ l. both a (each_title p l)) (drop_of_length-le ts h)) ∙ f

-- ---- rows that fit

module _ (rates lengths floors caps : List ℕ) (room : ℕ) where
  -- what it means that the rows fit
  pub record Fit : Type 0 where
    pub even : SameLengths rates lengths floors caps
    pub few : length rates ≤ titles_max
    pub roomy : length rates ≤ room

  pub fit : rows_fit rates lengths floors caps room ≡ true → Fit
  unfolding rows_fit
  fit h =
      let a = both_r (eqb (length lengths) (length rates)) _ h in
      let b = both_r (eqb (length floors) (length rates)) _ a in
      let d = both_r (eqb (length caps) (length rates)) _ b in
      record {
        even =
            record {
              second = eqb-true _ _ (both_l (eqb (length lengths) (length rates)) _ h);
              third = eqb-true _ _ (both_l (eqb (length floors) (length rates)) _ a);
              fourth = eqb-true _ _ (both_l (eqb (length caps) (length rates)) _ b);
            };
        few = leb-true _ _ (both_l (leb (length rates) titles_max) _ d);
        roomy = leb-true _ _ (both_r (leb (length rates) titles_max) _ d);
      }

-- ---- the refusals

-- each refusal in its turn: those before it do not hit
module _ (pool : ℕ) (rates lengths floors caps : List ℕ) (room : ℕ) where
  pub refused_rows : rows_fit rates lengths floors caps room ≡ false
      → wrong_rows ≡ verdict_of pool rates lengths floors caps room
  unfolding verdict_of first_hit
  refused_rows e = rw e

  module _ (fits : rows_fit rates lengths floors caps room ≡ true) where
    pub refused_limits :
        both (within pool_min pool_max pool) (each_title allowed (titles rates lengths floors caps)) ≡ false
        → outside_limits ≡ verdict_of pool rates lengths floors caps room
    unfolding verdict_of first_hit
    refused_limits e = rw (fits, e)

    module _
        (inside :
        both (within pool_min pool_max pool) (each_title allowed (titles rates lengths floors caps)) ≡ true) where
      pub refused_counts : each_title ordered (titles rates lengths floors caps) ≡ false
          → floor_above_cap ≡ verdict_of pool rates lengths floors caps room
      unfolding verdict_of first_hit
      refused_counts e = rw (fits, inside, e)

      module _ (kept : each_title ordered (titles rates lengths floors caps) ≡ true) where
        pub refused_lanes : pool < row_total floors → no_lanes ≡ verdict_of pool rates lengths floors caps room
        unfolding verdict_of first_hit
        refused_lanes h = rw (fits, inside, kept, lt-ltb _ _ h)

        pub accepted : row_total floors ≤ pool → done ≡ verdict_of pool rates lengths floors caps room
        unfolding verdict_of first_hit
        accepted h = rw (fits, inside, kept, le-ltb _ _ h)

-- ---- where nothing is refused

each_at : (p : Rated → Bool) (ts : List Rated) → each_title p ts ≡ true → (i : ℕ) → i < length ts
    → p (rated_title ts i) ≡ true
unfolding each_title
each_at p [] e i h = absurd (omega arith)
each_at p (t ∷ ts) e zero h = both_l (p t) (each_title p ts) e
each_at p (t ∷ ts) e (suc i) h = each_at p ts (both_r (p t) (each_title p ts) e) i (omega arith)

-- a title that passes both tests can be weighed
weighs : (t : Rated) → allowed t ≡ true → ordered t ≡ true → Weighable t
unfolding allowed ordered
weighs t a o =
    let b = both_r (within rate_min rate_max t.rate) _ a in
    let d = both_r (within length_min length_max t.length) _ b in
    let r = both_l (within rate_min rate_max t.rate) _ a in
    let l = both_l (within length_min length_max t.length) _ b in
    let f = both_l (within floor_min floor_max t.floor) _ d in
    let c = both_r (within floor_min floor_max t.floor) _ d in
    record {
      rate_low = leb-true _ _ (both_l (leb rate_min t.rate) _ r);
      rate_high = leb-true _ _ (both_r (leb rate_min t.rate) _ r);
      length_low = leb-true _ _ (both_l (leb length_min t.length) _ l);
      length_high = leb-true _ _ (both_r (leb length_min t.length) _ l);
      floor_low = leb-true _ _ (both_l (leb floor_min t.floor) _ f);
      floor_cap = leb-true _ _ o;
      cap_high = leb-true _ _ (both_r (leb count_min t.cap) _ c);
    }

module _ (pool : ℕ) (rates lengths floors caps row : List ℕ) where
  -- where nothing is refused, the counts can be worked out, and the row has their places
  pub record Ready : Type 0 where
    pub sound : Sound rates lengths floors caps
    pub few : length rates ≤ titles_max
    pub room : row_total floors ≤ pool
    pub roomy : length rates ≤ length row

  pub ready : verdict_of pool rates lengths floors caps (length row) ≡ done → Ready
  ready e =
      go (decide (rows_fit rates lengths floors caps (length row)))
      (decide (both (within pool_min pool_max pool) (each_title allowed ts)))
      (decide (each_title ordered ts)) (side pool (row_total floors))
    where
      ts : List Rated
      ts = titles rates lengths floors caps

      n : ℕ
      n = length row

      go : (rows_fit rates lengths floors caps n ≡ true) ⊎ (rows_fit rates lengths floors caps n ≡ false)
          → (both (within pool_min pool_max pool) (each_title allowed ts) ≡ true) ⊎
          (both (within pool_min pool_max pool) (each_title allowed ts) ≡ false)
          → (each_title ordered ts ≡ true) ⊎ (each_title ordered ts ≡ false)
          → (pool < row_total floors) ⊎ (row_total floors ≤ pool) → Ready
      go (inr f) i o b = absurd (omega (arith, refused_rows pool rates lengths floors caps n f ∙ e))
      go (inl f) (inr i) o b = absurd (omega (arith, refused_limits pool rates lengths floors caps n f i ∙ e))
      go (inl f) (inl i) (inr o) b = absurd (omega (arith, refused_counts pool rates lengths floors caps n f i o ∙ e))
      go (inl f) (inl i) (inl o) (inl b) =
          absurd (omega (arith, refused_lanes pool rates lengths floors caps n f i o b ∙ e))
      go (inl f) (inl i) (inl o) (inr b) =
          let g = fit rates lengths floors caps n f in
          let a = both_r (within pool_min pool_max pool) (each_title allowed ts) i in
          record {
            sound =
                record {
                  even =
                      g.even;
                  weighable =
                      record {
                        each =
                            λ j h. weighs (rated_title ts j) (each_at allowed ts a j h) (each_at ordered ts o j h);
                      };
                };
            few = g.few;
            room = b;
            roomy = g.roomy;
          }

  -- the row that a sharing leaves, done or refused
  pub row_done : verdict_of pool rates lengths floors caps (length row) ≡ done → {c : List ℕ}
      → c ≡ shared pool (titles rates lengths floors caps)
      → c ++ drop (length rates) row ≡ row_after pool rates lengths floors caps row
  unfolding row_after
  row_done e q = rw (q, e)

  pub row_refused : (verdict_of pool rates lengths floors caps (length row) ≡ done → ⊥)
      → row ≡ row_after pool rates lengths floors caps row
  unfolding row_after
  row_refused e = rw (ne_eqb _ _ e)
