-- Laws of a part of a whole: the product that it is divided from fits 64 bits, and it never exceeds the whole.
use Prim.Native.Nat.{ℕ, ◌*◌, ◌/◌, ◌^◌, ◌≤◌, ◌<◌, min}
use mathlib.Core.Path.{◌≡◌}
use native.Mathlib.Omega.{arith}
use native.Mathlib.Nat.{mul-le-mul, mul-le-mul_right, div-le_of_le-mul}
use Rattle.drawing.specs.Axis.{span_most, span_held, part_across}

module _ (w n s m : ℕ) (e : m ≡ min n s) where
  pub product_fits : s ≤ span_most → w < 2 ^ 16 → m * w < 2 ^ 64
  product_fits g k =
      let low : m ≤ 2 ^ 42 = omega arith in
      let most : m * w ≤ 2 ^ 42 * 2 ^ 16 = mul-le-mul {m₂ = 2 ^ 16} low (omega arith) in
      omega arith

  pub part_within : m * w / s ≤ w
  part_within = div-le_of_le-mul s (mul-le-mul_right w (omega arith))

pub part_is : (w span n s m : ℕ) → s ≡ span_held span → m ≡ min n s → m * w / s ≡ part_across w span n
unfolding part_across
part_is w span n s m e f = rw (f, e)
