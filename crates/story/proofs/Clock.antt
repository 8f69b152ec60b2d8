-- Laws of the clock: ticks begun by a moment, and the moments at which ticks begin.
-- Rest on division with remainder.
use mathlib.Core.Path.{◌≡◌}
use mathlib.Core.Logic.{⊎_elim}
use Prim.Native.Nat.{ℕ, suc, ◌+◌, ◌-◌, ◌*◌, ◌/◌, ◌%◌, ◌≤◌, ◌<◌}
use native.Mathlib.Omega.{arith}
use native.Mathlib.Nat.{le_antisymm, div-lt_iff_lt-mul, div-add-mod', div-mul-le_self, le-div_iff_mul-le}
use native.Mathlib.Nat.{mul-le-mul_right, mod-lt}
use lib.Dec.{ltb}
use borrow.Author.Tests.{ltb-true, ltb-false, lt-ltb}
use Rattle.rules.proofs.Tests.{decide, same}

module _ (B p : ℕ) (pos : 0 < p) where
  pub tick_mono : (x y : ℕ) → x ≤ y → (x - B) / p ≤ (y - B) / p
  tick_mono x y le =
      (le-div_iff_mul-le pos).1 (let a : (x - B) / p * p ≤ x - B = div-mul-le_self (x - B) p in omega arith)

  -- a tick that has begun began by then
  pub begun : (x n : ℕ) → B ≤ x → n ≤ (x - B) / p → B + n * p ≤ x
  begun x n le h =
      let a : (x - B) / p * p ≤ x - B = div-mul-le_self (x - B) p in
      let b : n * p ≤ (x - B) / p * p = mul-le-mul_right p h in
      omega arith

  pub begins : (x n : ℕ) → B + n * p ≤ x → n ≤ (x - B) / p
  begins x n le = (le-div_iff_mul-le pos).1 (omega arith)

  -- every moment from a tick's start up to the next is in that tick
  pub in_tick : (x n : ℕ) → B + n * p ≤ x → x < B + suc n * p → (x - B) / p ≡ n
  in_tick x n from until =
      le_antisymm (omega (arith, (div-lt_iff_lt-mul {x = x - B} {y = suc n} pos).1 (omega arith))) (begins x n from)

  -- and a moment is before the end of its tick
  pub ended : (x : ℕ) → x < B + suc ((x - B) / p) * p
  ended x = omega (arith, div-add-mod' (x - B) p, mod-lt (x - B) pos)

  -- a moment of tick T + j is before the start of tick T + o where j is less than o, and only there
  pub before_tick : (x T j o : ℕ) → B + (T + j) * p ≤ x → x < B + suc (T + j) * p → ltb x (B + (T + o) * p) ≡ ltb j o
  before_tick x T j o from until =
      same (ltb x (B + (T + o) * p)) (ltb j o)
      (λ h.
      ⊎_elim (λ y. y)
      (λ y.
      let m : o * p ≤ j * p = mul-le-mul_right p (ltb-false j o y) in
      absurd (omega (arith, ltb-true x (B + (T + o) * p) h)))
      (decide (ltb j o)))
      (λ h.
      let m : suc j * p ≤ o * p = mul-le-mul_right p (ltb-true j o h) in
      lt-ltb x (B + (T + o) * p) (omega arith))

  -- a moment that is the start of a tick is the start of its own tick
  pub on_its_tick : (x : ℕ) → B ≤ x → (x - B) % p ≡ 0 → x ≡ B + (x - B) / p * p
  on_its_tick x le z = omega (arith, div-add-mod' (x - B) p)

  -- a later moment at the start of a tick is in a later tick
  pub later_tick : (x y : ℕ) → B ≤ x → x < y → (y - B) % p ≡ 0 → (x - B) / p < (y - B) / p
  later_tick x y lo lt z =
      let ex : (x - B) / p * p ≤ x - B = div-mul-le_self (x - B) p in
      let ey : y ≡ B + (y - B) / p * p = on_its_tick y (omega arith) z in
      ⊎_elim (λ t. ltb-true ((x - B) / p) ((y - B) / p) t)
      (λ t.
      let m : (y - B) / p * p ≤ (x - B) / p * p = mul-le-mul_right p (ltb-false ((x - B) / p) ((y - B) / p) t) in
      absurd (omega arith))
      (decide (ltb ((x - B) / p) ((y - B) / p)))
