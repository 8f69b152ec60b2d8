-- What the theorem of the sharing asks of a title's part of the sum, and no more: it is never nothing, and up to the
-- cap one lane more at least halves it; so it falls with each lane, and each fall is below the one before. And that the
-- code's products fit 64 bits. Rests on the laws of ticks and slots (grid proofs/Ticks).
use mathlib.Core.Path.{◌≡◌, refl, ap}
use Prim.Native.Nat.{ℕ, suc, ◌+◌, ◌*◌, ◌^◌, ◌≤◌, ◌<◌}
use native.Mathlib.Omega.{arith}
use native.Mathlib.Nat.{mul-le-mul, mul-pos, le_refl}
use native.Mathlib.Decide.{le_ind}
use native.Mathlib.Numerals.{add-one}
use Rattle.rules.specs.Limits.{count_min, count_max, length_max, rate_max}
use Rattle.grid.specs.Ticks.{tick_of, slot}
use Rattle.grid.proofs.Ticks.{slot_pos, slot_half, tick_exactly}
use Rattle.sharing_titles.specs.declared.titles.Rated.{Rated}
use Rattle.sharing_titles.specs.Term.{term, fall}
use Rattle.sharing_titles.specs.inner.Weighing.{Weighable}

-- a lane more halves the slot, and the part with it
twice : (r m K k : ℕ) → k < K → r * (m * slot K k) ≡ 2 * (r * (m * slot K (suc k)))
twice r m K k h = omega (arith, ap (λ (w : ℕ). r * (m * w)) (slot_half K k h))

doubled : (t : Rated) (k : ℕ) → k < t.cap → term t k ≡ 2 * term t (suc k)
unfolding term
doubled t k h = twice t.rate _ t.cap k h

tick_some : (t : Rated) → Weighable t → 0 < tick_of t.length t.floor t.cap
tick_some t w =
    let x =
    tick_exactly t.length t.floor t.cap _ _ w.length_low (omega (arith, w.floor_low))
    w.floor_cap refl refl in
    omega (arith, x.is, x.low)

-- `halves`, `positive` and `fall_is` are of this `term`; the laws after them rest on the first two alone
pub halves : (t : Rated) → Weighable t → (k : ℕ) → count_min ≤ k → k < t.cap → 2 * term t (suc k) ≤ term t k
halves t w k l h = omega (arith, doubled t k h)

pub positive : (t : Rated) → Weighable t → (k : ℕ) → count_min ≤ k → k ≤ t.cap → 0 < term t k
unfolding term
positive t w k l h = mul-pos w.rate_low (mul-pos (tick_some t w) (slot_pos t.cap k))

-- what falls is as much as is left: rate x tick x the slot of one lane more, as the code has them
pub fall_is : (t : Rated) (k : ℕ) {m w : ℕ} → k < t.cap → m ≡ tick_of t.length t.floor t.cap
    → w ≡ slot t.cap (k + 1) → t.rate * (m * w) ≡ fall t k
unfolding fall term
fall_is t k h e f = rw (e, f, add-one) (omega (arith, doubled t k h))

-- a tick and a slot as the code has them, and then the rate: their product is below 2^64
pub slot_fits : {D m w : ℕ} → m ≤ D → D ≤ length_max → w ≤ 2 ^ count_max → m * w ≤ length_max * 2 ^ count_max
slot_fits {D} {m} {w} a b c = mul-le-mul {n₁ = m} {m₁ = w} {n₂ = length_max} {m₂ = 2 ^ count_max} (omega arith) c

pub part_fits : {r s : ℕ} → r ≤ rate_max → s ≤ length_max * 2 ^ count_max → r * s < 2 ^ 64
part_fits {r} {s} a b =
    omega (arith, mul-le-mul {n₁ = r} {m₁ = s} {n₂ = rate_max} {m₂ = length_max * 2 ^ count_max} a b)

module _ (t : Rated) (w : Weighable t) where
  -- a lane more makes the part less
  pub falls : (k : ℕ) → count_min ≤ k → k < t.cap → term t (suc k) < term t k
  falls k l h = omega (arith, halves t w k l h, positive t w k l (omega arith))

  -- the part is the fall and what is left
  pub fall_rest : (k : ℕ) → count_min ≤ k → k < t.cap → fall t k + term t (suc k) ≡ term t k
  unfolding fall
  fall_rest k l h = omega (arith, halves t w k l h)

  -- each fall is below the one before, and so at most any before
  pub shrinks : (k : ℕ) → count_min ≤ k → suc k < t.cap → fall t (suc k) < fall t k
  unfolding fall
  shrinks k l h =
      omega (
        arith,
        halves t w k l (omega arith),
        halves t w (suc k) (omega arith) h,
        positive t w (suc (suc k)) (omega arith) h,
      )

  pub shrinks_on : (k m : ℕ) → count_min ≤ k → k ≤ m → m < t.cap → fall t m ≤ fall t k
  shrinks_on k m l h =
      le_ind (λ (x : ℕ). x < t.cap → fall t x ≤ fall t k) (λ b. le_refl _)
      (λ x g ih b. omega (arith, shrinks x (omega arith) b, ih (omega arith))) m h
