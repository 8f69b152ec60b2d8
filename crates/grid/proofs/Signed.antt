-- Laws of the signed slot difference and of its floor remainder, as the machine keeps them: each signed value is read
-- back from its bits once, and everything after is about natural numbers. Rest on the machine's reading of a signed number.
use mathlib.Core.Path.{◌≡◌, refl, sym, ap, ap₂, subst, ◌∙◌}
use mathlib.Core.Bool.{true, false, false≢true}
use mathlib.Core.Logic.{⊎_elim}
use Prim.Native.Nat.{ℕ, zero, suc, ◌-◌, ◌%◌, ◌^◌, ◌<◌}
use native.Mathlib.Omega.{arith}
use native.Mathlib.Nat.{mod-lt}
use lib.Dec.{T, ltb}
use lib.IntN.{ℤ, pos, negsuc, ◌-ℤ◌, nat_abs}
use lib.Signed.{lt_z, non_neg}
use mir.Syntax.{w64}
use mir.Val.{Fits, SFits, to_z, of_z}
use mir.ValLaws.{to_z-of_z, to_z_pos}
use borrow.Author.Tests.{le-ltb, ltb-true}
use Rattle.rules.proofs.Tests.{decide}
use Rattle.grid.specs.Channels.{floor_rem, shift}
use Rattle.grid.specs.Bounds.{IsRest}

-- below zero: x is -1 - n
pub record Below (x : ℤ) (n : ℕ) : Type 0 where
  pub is : x ≡ negsuc n
  pub small : n < 2 ^ 63

pub below : (x : ℤ) → SFits w64 x → lt_z (to_z w64 (of_z w64 x)) (pos 0) ≡ true → (n : ℕ) × Below x n
below (pos n) f t =
    let l : n < 0 = ltb-true n 0 (subst (λ z. lt_z z (pos 0) ≡ true) (to_z-of_z w64 (pos n) f) t) in absurd (omega arith)
below (negsuc n) f t = (n, record { is = refl; small = f.sfits })

-- at or above zero: x is n
pub record Above (x : ℤ) (n : ℕ) : Type 0 where
  pub is : x ≡ pos n
  pub small : n < 2 ^ 63

pub above : (x : ℤ) → SFits w64 x → lt_z (to_z w64 (of_z w64 x)) (pos 0) ≡ false → (n : ℕ) × Above x n
above (pos n) f t = (n, record { is = refl; small = f.sfits })
above (negsuc n) f t = absurd (false≢true (sym (subst (λ z. lt_z z (pos 0) ≡ false) (to_z-of_z w64 (negsuc n) f) t)))

minus_one_less : (n : ℕ) → negsuc 0 -ℤ negsuc n ≡ pos n
minus_one_less n = rw (le-ltb (suc n) 1 (omega arith)) (ap pos (omega arith))

module _ (x : ℤ) (n : ℕ) (fits : SFits w64 x) (b : Below x n) where
  -- what the machine has for -1 - x
  pub flipped : negsuc 0 -ℤ to_z w64 (of_z w64 x) ≡ pos n
  flipped = ap (λ z. negsuc 0 -ℤ z) (to_z-of_z w64 x fits ∙ b.is) ∙ minus_one_less n

  pub flipped_fits : SFits w64 (negsuc 0 -ℤ to_z w64 (of_z w64 x))
  flipped_fits = subst (λ z. SFits w64 z) (sym flipped) (record { sfits = b.small })

  pub flipped_read : to_z w64 (of_z w64 (negsuc 0 -ℤ to_z w64 (of_z w64 x))) ≡ pos n
  flipped_read = to_z-of_z w64 (negsuc 0 -ℤ to_z w64 (of_z w64 x)) flipped_fits ∙ flipped

-- a signed number that is n may be cast to n
pub cast_of : (z : ℤ) (n : ℕ) → z ≡ pos n → n < 2 ^ 63 → T (non_neg z) × Fits w64 (nat_abs z)
cast_of z n e l = subst (λ z. T (non_neg z) × Fits w64 (nat_abs z)) (sym e) (tt, record { fits = omega arith })

pub rem_below : (z x : ℤ) (n m : ℕ) → z ≡ pos n → x ≡ negsuc n → 0 < m → IsRest (floor_rem x m) m (m - 1 - nat_abs z % m)
unfolding floor_rem
rem_below z x n m e f p =
    record {
      is = ap (λ z. m - 1 - nat_abs z % m) e ∙ sym (ap (λ x. floor_rem x m) f);
      less = omega arith;
    }

pub rem_above : (z x : ℤ) (n m : ℕ) → z ≡ pos n → x ≡ pos n → 0 < m → IsRest (floor_rem x m) m (nat_abs z % m)
unfolding floor_rem
rem_above z x n m e f p =
    record {
      is = ap (λ z. nat_abs z % m) e ∙ sym (ap (λ x. floor_rem x m) f);
      less = mod-lt (nat_abs z) p;
    }

-- the difference of two small numbers fits, and is read back as it was
diff_small : (j s : ℕ) → j < 2 ^ 62 → s < 2 ^ 62 → SFits w64 (pos j -ℤ pos s)
diff_small j zero a b = record { sfits = omega arith }
diff_small j (suc s) a b =
    ⊎_elim (λ t. rw t (record { sfits = omega arith })) (λ t. rw t (record { sfits = omega arith })) (decide (ltb j (suc s)))

module _ (j s : ℕ) (a : j < 2 ^ 62) (b : s < 2 ^ 62) where
  as_signed : to_z w64 j -ℤ to_z w64 s ≡ pos j -ℤ pos s
  as_signed = ap (λ z. z -ℤ to_z w64 s) (to_z_pos w64 j (omega arith)) ∙ ap (λ z. pos j -ℤ z) (to_z_pos w64 s (omega arith))

  pub diff_fits : SFits w64 (to_z w64 j -ℤ to_z w64 s)
  diff_fits = subst (λ z. SFits w64 z) (sym as_signed) (diff_small j s a b)

  pub diff_read : to_z w64 (of_z w64 (to_z w64 j -ℤ to_z w64 s)) ≡ pos j -ℤ pos s
  diff_read = to_z-of_z w64 (to_z w64 j -ℤ to_z w64 s) diff_fits ∙ as_signed

-- the floor remainder, from the parts by which code computes it
pub rest_parts : (A k d j s m r : ℕ) (z : ℤ) → j < 2 ^ 62 → s < 2 ^ 62 → s ≡ shift A k → z ≡ pos j -ℤ pos s → m ≡ 2 ^ d
    → IsRest (floor_rem (to_z w64 (of_z w64 z)) m) m r → IsRest (floor_rem (pos j -ℤ pos (shift A k)) (2 ^ d)) (2 ^ d) r
rest_parts A k d j s m r z a b e f g h =
    let fits : SFits w64 z = subst (λ z. SFits w64 z) (sym f) (diff_small j s a b) in
    record {
      is = h.is ∙ ap₂ floor_rem (to_z-of_z w64 z fits ∙ f ∙ ap (λ n. pos j -ℤ pos n) e) g;
      less = omega (arith, h.less);
    }
