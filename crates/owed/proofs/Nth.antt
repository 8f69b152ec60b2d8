-- Looking tick by tick for the owed tick that has so many owed ticks before it: what is known while it was not met, and
-- that the first to be met is the one. Rests on the laws of searches.
use mathlib.Core.Path.{◌≡◌, refl, sym, ◌∙◌}
use mathlib.Core.Bool.{Bool, true, false, false≢true}
use mathlib.Core.Logic.{⊎_elim}
use Prim.Native.Nat.{ℕ, suc, ◌+◌, ◌≤◌, ◌<◌}
use native.Mathlib.Omega.{arith}
use native.Mathlib.Nat.{le_antisymm}
use lib.Dec.{ltb}
use borrow.Author.Tests.{ltb-true, ltb-false, le-ltb, eq-eqb, ne_eqb}
use Rattle.rules.specs.Refusals.{pick}
use Rattle.rules.specs.Search.{first, how_many}
use Rattle.rules.proofs.Tests.{decide}
use Rattle.rules.proofs.Search.{first_before, first_hit_lem, first_least}
use Rattle.story.specs.declared.Title.{Title}
use Rattle.story.specs.Kept.{kept_owed, kept_within, kept_nth}

-- where none below i passes, the first below any more is i if that passes
first_here : (p : ℕ → Bool) (n i : ℕ) → i < n → first p i ≡ i → p i ≡ true → first p n ≡ i
first_here p n i l none here = le_antisymm (first_least p n i here) lower
  where
    lower : i ≤ first p n
    lower =
        ⊎_elim
        (λ t. let f : first p n < i = ltb-true (first p n) i t in
        absurd (false≢true (sym (first_before p i (first p n) (omega arith)) ∙ first_hit_lem p n (omega arith))))
        (λ t. ltb-false (first p n) i t)
        (decide (ltb (first p n) i))

-- after i ticks from T: the tick was not met, and so many are owed
pub record Unmet (t : Title) (l T nth i owed : ℕ) : Type 0 where
  pub none : first (kept_nth t l T nth) i ≡ i
  pub counted : owed ≡ kept_within t l T i
  pub few : owed ≤ i

module _ (t : Title) (l T nth : ℕ) where
  pub unmet_yet : Unmet t l T nth 0 0
  unfolding first kept_within how_many
  unmet_yet = record { none = refl; counted = refl; few = omega arith }

  -- one tick more that is not the one
  more : (i owed : ℕ) → Unmet t l T nth i owed → kept_nth t l T nth i ≡ false → first (kept_nth t l T nth) (suc i) ≡ suc i
  unfolding first
  more i owed u h = rw (u.none, h, le-ltb i i (omega arith)) refl

  counted_next : (i : ℕ) → kept_within t l T (suc i) ≡ kept_within t l T i + pick (kept_owed t l (T + i)) 1 0
  unfolding kept_within how_many
  counted_next i = refl

  another : (i owed : ℕ) → owed ≡ kept_within t l T i → (owed ≡ nth → ⊥) → kept_owed t l (T + i) ≡ true
      → kept_nth t l T nth i ≡ false
  unfolding kept_nth
  another i owed c n h = rw (h, ← c) (ne_eqb owed nth n)

  not_owed : (i : ℕ) → kept_owed t l (T + i) ≡ false → kept_nth t l T nth i ≡ false
  unfolding kept_nth
  not_owed i h = rw h refl

  the_one : (i owed : ℕ) → owed ≡ kept_within t l T i → owed ≡ nth → kept_owed t l (T + i) ≡ true
      → kept_nth t l T nth i ≡ true
  unfolding kept_nth
  the_one i owed c e h = rw (h, ← c) (eq-eqb owed nth e)

  pub unmet_owed : (i owed : ℕ) → Unmet t l T nth i owed → kept_owed t l (T + i) ≡ true → (owed ≡ nth → ⊥)
      → Unmet t l T nth (suc i) (suc owed)
  unmet_owed i owed u h n =
      record {
        none = more i owed u (another i owed u.counted n h);
        counted = sym (counted_next i ∙ rw h (omega (arith, u.counted)));
        few = omega (arith, u.few);
      }

  pub unmet_not : (i owed : ℕ) → Unmet t l T nth i owed → kept_owed t l (T + i) ≡ false → Unmet t l T nth (suc i) owed
  unmet_not i owed u h =
      record {
        none = more i owed u (not_owed i h);
        counted = sym (counted_next i ∙ rw h (omega (arith, u.counted)));
        few = omega (arith, u.few);
      }

  pub met : (n i owed : ℕ) → i < n → Unmet t l T nth i owed → kept_owed t l (T + i) ≡ true → owed ≡ nth
      → first (kept_nth t l T nth) n ≡ i
  met n i owed b u h e = first_here (kept_nth t l T nth) n i b u.none (the_one i owed u.counted e h)
