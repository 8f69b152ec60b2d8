-- Laws of a mean to the nearest whole number, as the code meets its cases. Rest on division with remainder.
use mathlib.Core.Path.{◌≡◌, ap, ◌∙◌}
use Prim.Native.Nat.{ℕ, ◌+◌, ◌-◌, ◌*◌, ◌/◌, ◌%◌, ◌^◌, ◌≤◌, ◌<◌}
use native.Mathlib.Nat.{div-add-mod', mod-lt, div-mul-le_self, add-mul-div_left, div-lt_iff_lt-mul, le-div_iff_mul-le}
use native.Mathlib.Omega.{arith}
use borrow.Author.Tests.{eq-eqb, ne_eqb}
use Rattle.waits.specs.Lines.{nearest}

pub mean_none : (s n : ℕ) → n ≡ 0 → 0 ≡ nearest s n
unfolding nearest
mean_none s n h = rw (eq-eqb n 0 h)

-- of q n + r the double, and n more, is q times 2 n and 2 r + n
halves : (s n : ℕ) → 2 * s + n ≡ 2 * (s % n) + n + 2 * n * (s / n)
halves s n = omega (arith, div-add-mod' s n)

module _ (s n : ℕ) (some : n ≡ 0 → ⊥) where
  pos : 0 < 2 * n
  pos = Rattle.grid.proofs.Numbers.ne_zero_pos (2 * n) (λ h. some (omega arith))

  nearest_is : nearest s n ≡ (2 * (s % n) + n) / (2 * n) + s / n
  unfolding nearest
  nearest_is = rw (ne_eqb n 0 some) (ap (λ x. x / (2 * n)) (halves s n) ∙ add-mul-div_left (2 * (s % n) + n) (s / n) pos)

  pub mean_down : s % n < n - n / 2 → s / n ≡ nearest s n
  mean_down h =
      let none : (2 * (s % n) + n) / (2 * n) < 1 = (div-lt_iff_lt-mul {k = 2 * n} {x = 2 * (s % n) + n} {y = 1} pos).1 (omega arith) in
      omega (arith, nearest_is)

  pub mean_up : n - n / 2 ≤ s % n → s / n + 1 ≡ nearest s n
  mean_up h =
      let rest : s % n < n = mod-lt s (omega (arith, pos)) in
      let one : 1 ≤ (2 * (s % n) + n) / (2 * n) = (le-div_iff_mul-le {k = 2 * n} {x = 1} {y = 2 * (s % n) + n} pos).1 (omega arith) in
      let few : (2 * (s % n) + n) / (2 * n) < 2 = (div-lt_iff_lt-mul {k = 2 * n} {x = 2 * (s % n) + n} {y = 2} pos).1 (omega arith) in
      omega (arith, nearest_is)

  -- with something left over the divisor is 2 at least
  pub mean_fits : n - n / 2 ≤ s % n → s < 2 ^ 64 → s / n + 1 < 2 ^ 64
  mean_fits h fits =
      let rest : s % n < n = mod-lt s (omega (arith, pos)) in
      let twice : s / n * 2 ≤ s / n * n = native.Mathlib.Nat.mul-le-mul_left (s / n) (omega arith) in
      omega (arith, div-mul-le_self s n)
