-- The numbers of a walk as the code computes them: each way out of a step, and that every sum has room. Rests on the definitions.
use mathlib.Core.Path.{◌≡◌, refl, ap}
use Prim.Native.Nat.{ℕ, ◌+◌, ◌-◌, ◌*◌, ◌/◌, ◌%◌, ◌^◌, ◌≤◌, ◌<◌, min}
use native.Mathlib.Omega.{arith}
use native.Mathlib.Numerals.{add-one}
use native.Mathlib.Nat.{mod-lt, mul-le-mul}
use lib.Dec.{ltb, eqb}
use lib.Pow.{pow_pos, pow_mono}
use borrow.Author.Tests.{lt-ltb, le-ltb}
use Rattle.rules.specs.Limits.{count_max}
use Rattle.rules.specs.Refusals.{pick}
use Rattle.rules.specs.Search.{total}
use Rattle.rules.proofs.Tests.{both_none}
use Rattle.grid.specs.Ticks.{slot, rounded_up}
use Rattle.grid.specs.Lifted.{lifted}
use Rattle.story.specs.declared.Film.{Film}
use Rattle.story.specs.Life.{tick_by}
use Rattle.stretches.specs.declared.upper.Walk.{Walk}
use Rattle.stretches.specs.inner.Walk.{OnChannel, rest_on, from_on, awaited_on, behind_on, ticks_on, ticks_to, walk_of}

module _ (s : Walk) (d : ℕ) where
  pub rest_low : OnChannel s d → rest_on s d ≤ 2 ^ count_max
  unfolding rest_on
  rest_low on =
      let m : s.turn % 2 ^ min (d + 1) s.lane < 2 ^ min (d + 1) s.lane = mod-lt s.turn (pow_pos (min (d + 1) s.lane)) in
      let p : 2 ^ min (d + 1) s.lane ≤ 2 ^ count_max = pow_mono {i = min (d + 1) s.lane} {j = count_max} (omega (arith, on.walk.lane)) in
      omega arith

  pub from_is : (2 ^ d - (rest_on s d + 1)) * s.width ≡ from_on s d
  unfolding from_on
  from_is = ap (λ n. n * s.width) (omega arith)

  pub ticks_short : 2 ^ d ≤ rest_on s d → 0 ≡ ticks_on s d
  unfolding ticks_on awaited_on
  ticks_short l = rw (le-ltb (rest_on s d) (2 ^ d) l) refl

  pub ticks_past : s.until + rest_on s d * s.width ≤ s.at → 0 ≡ ticks_on s d
  unfolding ticks_on awaited_on
  ticks_past l = rw (le-ltb s.at (s.until + rest_on s d * s.width) l, both_none (ltb (rest_on s d) (2 ^ d))) refl

  pub ticks_here : rest_on s d < 2 ^ d → s.at < s.until + rest_on s d * s.width →
      min s.width (min (s.until + rest_on s d * s.width - s.at) (s.film - (2 * 2 ^ d - 2) * s.width)) ≡ ticks_on s d
  unfolding ticks_on awaited_on behind_on
  ticks_here l m = rw (lt-ltb (rest_on s d) (2 ^ d) l, lt-ltb s.at (s.until + rest_on s d * s.width) m) refl

-- a product of two small numbers
pub small : (a b : ℕ) → a ≤ 2 ^ 13 → b ≤ 2 ^ 12 → a * b ≤ 2 ^ 25
small a b l m = mul-le-mul {n₁ = a} {m₁ = b} {n₂ = 2 ^ 13} {m₂ = 2 ^ 12} l m

-- a channel more
pub ticks_more : (s : Walk) (n owed ticks : ℕ) → owed ≡ ticks_to s n → ticks ≡ ticks_on s (n + 1) → owed + ticks ≡ ticks_to s (n + 1)
unfolding ticks_to total
ticks_more s n owed ticks e f = rw (e, f, add-one n) refl

-- a walk, from the parts by which code computes it
pub walk_parts : (f : Film) (l T until w a b n : ℕ) → w ≡ slot f.cap (l + 1) → a ≡ 2 ^ (l + 1) → b ≡ 2 ^ (l + 1 - f.floor)
    → n ≡ pick (eqb until 0) 0 (rounded_up f.length (tick_by f))
    → ◌≡◌ {A = Walk} (record { lane = l; at = T; width = w; turn = T / w + 1 + (a - b); until = until; film = n }) (walk_of f l T until)
unfolding walk_of lifted
walk_parts f l T until w a b n e g h i = rw (e, g, h, i, add-one l) refl
