-- Laws of the first number that passes a test, found one by one, of the place at which a cell is taken, and of a count going on.
use Prim.Native.Nat.{ℕ, ◌+◌, ◌*◌, ◌≤◌, ◌<◌}
use mathlib.Core.Path.{◌≡◌, refl, sym, ◌∙◌}
use mathlib.Core.Bool.{Bool, true, false, false≢true}
use mathlib.Core.Logic.{⊎_elim}
use native.Mathlib.Omega.{arith}
use native.Mathlib.Nat.{le_antisymm}
use native.Mathlib.Numerals.{add-one}
use borrow.Author.Tests.{ltb-true, ltb-false, lt-ltb, le-ltb}
use lib.Dec.{ltb, eqb}
use Rattle.rules.specs.Refusals.{pick}
use Rattle.rules.specs.Search.{first, how_many}
use Rattle.rules.proofs.Tests.{decide}
use Rattle.rules.proofs.Search.{first_hit_lem, first_before, first_least}
use Rattle.scheme.specs.Scheme.{film_in}
use Rattle.takings.specs.Takings.{taking_place}

module _ (p : ℕ → Bool) where
  pub first_none : first p 0 ≡ 0
  unfolding first
  first_none = refl

  -- none of the first i passes, nor does i
  pub first_on : (i : ℕ) → first p i ≡ i → p i ≡ false → first p (i + 1) ≡ i + 1
  unfolding first
  first_on i e f = rw (add-one, e, f, le-ltb i i (omega arith)) refl

  -- none of the first i passes, and i does
  pub first_here : (i n : ℕ) → first p i ≡ i → p i ≡ true → i < n → first p n ≡ i
  first_here i n e h l =
      le_antisymm (first_least p n i h)
      (⊎_elim
      (λ t. absurd (false≢true (sym (first_before p i (first p n) (omega (arith, e, ltb-true (first p n) i t))) ∙ first_hit_lem p n (omega (arith, ltb-true (first p n) i t)))))
      (λ t. ltb-false (first p n) i t)
      (decide (ltb (first p n) i)))

  pub count_none : how_many p 0 ≡ 0
  unfolding how_many
  count_none = refl

  pub count_on : (n k m : ℕ) → k ≡ how_many p n → m ≡ pick (p n) 1 0 → k + m ≡ how_many p (n + 1)
  unfolding how_many
  count_on n k m e f = rw (add-one, e, f) refl

-- the two ways of a cell
module _ (D tick : ℕ) (f : ℕ → ℕ) (m c : ℕ) where
  pub place_film : c * tick < D → first (λ j. eqb (f j) c) m ≡ taking_place D tick f m c
  unfolding taking_place film_in
  place_film h = rw (lt-ltb _ _ h) refl

  pub place_padding : D ≤ c * tick → m ≡ taking_place D tick f m c
  unfolding taking_place film_in
  place_padding h = rw (le-ltb _ _ h) refl
