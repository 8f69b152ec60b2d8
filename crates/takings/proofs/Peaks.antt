-- Laws of a peak: it goes on with each value, no value is higher, and it is reached where there is one above 0.
use Prim.Native.Nat.{ℕ, zero, suc, ◌+◌, ◌≤◌, ◌<◌}
use mathlib.Core.Path.{◌≡◌, refl}
use mathlib.Core.Bool.{Bool, true, false}
use mathlib.Core.Logic.{⊎_elim}
use native.Mathlib.Omega.{arith}
use native.Mathlib.Numerals.{add-one}
use borrow.Author.Tests.{ltb-true, ltb-false, lt-ltb, le-ltb}
use lib.Dec.{ltb}
use Rattle.rules.specs.Refusals.{pick}
use Rattle.rules.proofs.Search.{below_suc}
use Rattle.takings.specs.declared.Peak.{Peak}
use Rattle.takings.specs.Takings.{peak_to}

module _ (f : ℕ → ℕ) where
  pub peak_none : record { many = 0; tick = 0 } ≡ peak_to f 0
  unfolding peak_to
  peak_none = refl

  pub peak_higher : (t v : ℕ) (p : Peak) → p ≡ peak_to f t → v ≡ f t → p.many < v → record { many = v; tick = t } ≡ peak_to f (t + 1)
  unfolding peak_to
  peak_higher t v p e g h = rw (add-one, ← e, ← g, lt-ltb _ _ h) refl

  pub peak_stays : (t v : ℕ) (p : Peak) → p ≡ peak_to f t → v ≡ f t → v ≤ p.many → p ≡ peak_to f (t + 1)
  unfolding peak_to
  peak_stays t v p e g h = rw (add-one, ← e, ← g, le-ltb _ _ h) refl

  pub peak_highest : (n t : ℕ) → t < n → f t ≤ (peak_to f n).many
  unfolding peak_to
  peak_highest zero t l = absurd (omega arith)
  peak_highest (suc n) t l = go (ltb (peak_to f n).many (f n)) refl (peak_highest n t)
    where
      go : (b : Bool) → ltb (peak_to f n).many (f n) ≡ b → (t < n → f t ≤ (peak_to f n).many)
          → f t ≤ (pick b (record { many = f n; tick = n }) (peak_to f n)).many
      go true e ih = ⊎_elim (λ h. omega (arith, ih h, ltb-true (peak_to f n).many (f n) e)) (λ h. rw h (omega arith)) (below_suc t n l)
      go false e ih = ⊎_elim (λ h. ih h) (λ h. rw h (ltb-false (peak_to f n).many (f n) e)) (below_suc t n l)

  pub peak_reached : (n : ℕ) → 0 < (peak_to f n).many → ((peak_to f n).tick < n) × (f (peak_to f n).tick ≡ (peak_to f n).many)
  unfolding peak_to
  peak_reached zero h = absurd (omega arith)
  peak_reached (suc n) h = go (ltb (peak_to f n).many (f n)) (peak_reached n) h
    where
      go : (b : Bool) → (0 < (peak_to f n).many → ((peak_to f n).tick < n) × (f (peak_to f n).tick ≡ (peak_to f n).many))
          → 0 < (pick b (record { many = f n; tick = n }) (peak_to f n)).many
          → ((pick b (record { many = f n; tick = n }) (peak_to f n)).tick < suc n) × (f (pick b (record { many = f n; tick = n }) (peak_to f n)).tick ≡ (pick b (record { many = f n; tick = n }) (peak_to f n)).many)
      go true ih k = (omega arith, refl)
      go false ih k = (omega (arith, (ih k).0), (ih k).1)
