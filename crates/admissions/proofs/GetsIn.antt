-- The next admission is one at most, and there is one exactly when some admission lets the arrival in, however late; so what a
-- row of arrivals comes to is one. Rests on the bounded search for the first tick that passes a test.
use mathlib.Core.Path.{◌≡◌, refl, sym, ◌∙◌}
use mathlib.Core.Bool.{true, false≢true}
use mathlib.Core.Logic.{⊎_elim}
use mathlib.Core.List.{List}
use Prim.Native.Nat.{ℕ, zero, suc, ◌-◌, ◌≤◌, ◌<◌}
use native.Mathlib.Nat.{le_antisymm}
use native.Mathlib.Omega.{arith}
use borrow.Author.Tests.{ltb-true, ltb-false, leb-true, lt-leb}
use lib.Dec.{leb, ltb}
use lib.ListN.{get_or}
use Rattle.rules.specs.Limits.{both}
use Rattle.rules.specs.Search.{first}
use Rattle.rules.proofs.Tests.{decide, both_l, both_r}
use Rattle.rules.proofs.Search
use Rattle.story.specs.Life.{Life, is_admission}
use Rattle.story.specs.Story.{moment_of}
use Rattle.admissions.specs.declared.Waits.{Waits}
use Rattle.admissions.specs.Waits.{lets_in, Next, TurnedAway, waited, Tallied, none, gets_in, turned_away}

module _ (L : Life) (x : ℕ) where
  -- ---- what it is to be let in

  pub record LetIn (a : ℕ) : Type 0 where
    pub not_early : L.opened ≤ x
    pub admission : is_admission L a ≡ true
    pub in_time : x ≤ moment_of L a

  pub let_in : (a : ℕ) → lets_in L x a ≡ true → LetIn a
  unfolding lets_in
  let_in a h =
      let rest = both_r (leb L.opened x) (both (is_admission L a) (leb x (moment_of L a))) h in
      record {
        not_early = leb-true L.opened x (both_l (leb L.opened x) (both (is_admission L a) (leb x (moment_of L a))) h);
        admission = both_l (is_admission L a) (leb x (moment_of L a)) rest;
        in_time = leb-true x (moment_of L a) (both_r (is_admission L a) (leb x (moment_of L a)) rest);
      }

  pub too_early_lem : x < L.opened → TurnedAway L x
  unfolding lets_in
  too_early_lem h a = rw (lt-leb L.opened x h)

  -- ---- the next admission

  not_below : (a b : ℕ) → Next L x a → lets_in L x b ≡ true → a ≤ b
  not_below a b p h =
      ⊎_elim (λ t. absurd (false≢true (sym (p.none_before b (ltb-true b a t)) ∙ h))) (λ t. ltb-false b a t) (decide (ltb b a))

  pub next_one : (a b : ℕ) → Next L x a → Next L x b → a ≡ b
  next_one a b p q = le_antisymm (not_below a b p q.lets_in_holds) (not_below b a q p.lets_in_holds)

  -- who is let in by some admission has a next one
  pub has_next : (b : ℕ) → lets_in L x b ≡ true → (a : ℕ) × Next L x a
  has_next b h =
      let low : first (lets_in L x) (suc b) ≤ b = Search.first_least (lets_in L x) (suc b) b h in (
        first (lets_in L x) (suc b),
        record {
          lets_in_holds = Search.first_hit_lem (lets_in L x) (suc b) (omega arith);
          none_before = λ c lt. Search.first_before (lets_in L x) (suc b) c lt;
        },
      )

  -- so an arrival gets in exactly when some admission lets it in, however far off
  pub gets_in_exactly : (((a : ℕ) × Next L x a) → ((b : ℕ) × (lets_in L x b ≡ true)))
      × (((b : ℕ) × (lets_in L x b ≡ true)) → ((a : ℕ) × Next L x a))
  gets_in_exactly = (λ n. (n.0, n.1.lets_in_holds), λ b. has_next b.0 b.1)

  pub lets_none : (a : ℕ) → Next L x a → TurnedAway L x → ⊥
  lets_none a p away = false≢true (sym (away a) ∙ p.lets_in_holds)

-- ---- a row

pub one_tally : (L : Life) (xs : List ℕ) (n : ℕ) (w v : Waits) → Tallied L xs n w → Tallied L xs n v → w ≡ v
one_tally L xs zero w v none none = refl
one_tally L xs (suc n) w v (gets_in {a = a} {w = w₀} p t) (gets_in {a = b} {w = v₀} q u) =
    let same : a ≡ b = next_one L (get_or xs n 0) a b p q in
    let before : w₀ ≡ v₀ = one_tally L xs n w₀ v₀ t u in
    λ i. waited (before i) (moment_of L (same i) - get_or xs n 0)
one_tally L xs (suc n) w v (gets_in {a = a} p t) (turned_away q u) = absurd (lets_none L (get_or xs n 0) a p q)
one_tally L xs (suc n) w v (turned_away q u) (gets_in {a = a} p t) = absurd (lets_none L (get_or xs n 0) a p q)
one_tally L xs (suc n) w v (turned_away p t) (turned_away q u) = one_tally L xs n w v t u
