-- Laws of places: the product of columns and their width is small, and a place is the definition's.
use Prim.Native.Nat.{ℕ, ◌+◌, ◌-◌, ◌*◌, ◌^◌, ◌≤◌, ◌<◌, max}
use mathlib.Core.Path.{◌≡◌}
use native.Mathlib.Omega.{arith}
use native.Mathlib.Nat.{mul-le-mul}
use Rattle.drawing.specs.Axis.{plot_left, part_across}
use Rattle.strips.specs.declared.scale.Scale.{Scale}
use Rattle.strips.specs.Scale.{place_across, end_across}

pub product_low : (n w g : ℕ) → n ≤ w → w < 2 ^ 16 → g < 2 ^ 16 → n * g ≤ 2 ^ 32
product_low n w g a b c =
    let left : n ≤ 2 ^ 16 = omega arith in
    let right : g ≤ 2 ^ 16 = omega arith in
    let most : n * g ≤ 2 ^ 16 * 2 ^ 16 = mul-le-mul left right in
    omega arith

module _ (s : Scale) where
  pub place_is : (τ d p : ℕ) → d ≡ τ - s.first → p ≡ part_across s.columns s.span d → plot_left + p * s.grain ≡ place_across s τ
  unfolding place_across
  place_is τ d p e f = rw (f, e)

  pub end_is : (from to a b r : ℕ) → a ≡ place_across s to → b ≡ place_across s from → r ≡ max a (b + s.grain) → r ≡ end_across s from to
  unfolding end_across
  end_is from to a b r e f g = rw (g, e, f)
