-- Laws of remainders and powers of two that the grid's laws share.
-- Rest on the library's division with remainder.
use mathlib.Core.Path.{◌≡◌, refl, sym, ap, ◌∙◌}
use mathlib.Core.Logic.{⊎_elim}
use Prim.Native.Nat.{ℕ, zero, suc, ◌+◌, ◌-◌, ◌*◌, ◌/◌, ◌%◌, ◌^◌, ◌≤◌, ◌<◌}
use native.Mathlib.Omega.{arith}
use native.Mathlib.Nat.{add-mul-mod_self_left, mod-eq_of_lt, mod-lt, div-add-mod, le_antisymm}
use lib.Arith.{digits_div}
use lib.Count.{count_leading_zeros, leading_top}
use lib.Dec.{ltb}
use lib.Pow.{pow-add, pow_pos, pow_mono}
use borrow.Author.Tests.{ltb-true, ltb-false}
use Rattle.rules.proofs.Tests.{decide}

-- a number below m is the remainder of all that differ from it by multiples of m
pub mod_unique : (m x y a b : ℕ) → x < m → y + m * a ≡ x + m * b → y % m ≡ x
mod_unique m x y a b l e =
    sym (add-mul-mod_self_left y m a) ∙ ap (λ n. n % m) e ∙ add-mul-mod_self_left x m b ∙ mod-eq_of_lt l

-- two numbers that differ by multiples of m have one remainder
pub mod_same : (m x y a b : ℕ) → y + m * a ≡ x + m * b → y % m ≡ x % m
mod_same m x y a b e =
    sym (add-mul-mod_self_left y m a) ∙ ap (λ n. n % m) e ∙ add-mul-mod_self_left x m b

pub div_unique : (m q r y : ℕ) → r < m → y ≡ q * m + r → y / m ≡ q
div_unique m q r y l e = ap (λ n. n / m) e ∙ digits_div q l

-- how many steps there are from x on until the remainder by P is that of n
abbrev pub until : ℕ → ℕ → ℕ → ℕ
until P x n = (n + (P - x % P)) % P

pub turn_to : (P x n : ℕ) → 0 < P → P ≤ n → n < 2 * P → (x + until P x n) % P ≡ n - P
turn_to P x n p l h =
    let y : ℕ = n + (P - x % P) in
    let r : x % P < P = mod-lt x p in
    let d : P * (x / P) + x % P ≡ x = div-add-mod x P in
    let e : P * (y / P) + y % P ≡ y = div-add-mod y P in
    mod_unique P (n - P) (x + y % P) (y / P) (x / P + 2) (omega arith) (omega arith)

-- and they are the only ones below P
pub turn_only : (P x n o : ℕ) → 0 < P → P ≤ n → n < 2 * P → o < P → (x + o) % P ≡ n - P → until P x n ≡ o
turn_only P x n o p l h b e =
    let r : x % P < P = mod-lt x p in
    let d : P * (x / P) + x % P ≡ x = div-add-mod x P in
    let f : P * ((x + o) / P) + (x + o) % P ≡ x + o = div-add-mod (x + o) P in
    mod_unique P o (n + (P - x % P)) ((x + o) / P) (x / P + 2) b (omega arith)

-- a power taken apart at a smaller one
pub pow_part : (i k : ℕ) → i ≤ k → 2 ^ k ≡ 2 ^ i * 2 ^ (k - i)
pow_part i k l = let e : k ≡ i + (k - i) = omega arith in ap (λ n. 2 ^ n) e ∙ pow-add 2 i (k - i)

-- at most one power of two has a number from itself up to its double
pub top_unique : (i j n : ℕ) → 2 ^ i ≤ n → n < 2 ^ suc i → 2 ^ j ≤ n → n < 2 ^ suc j → i ≡ j
top_unique i j n a b c d =
    ⊎_elim (λ t. let l : i < j = ltb-true i j t in let m : 2 ^ suc i ≤ 2 ^ j = pow_mono l in absurd (omega arith))
    (λ t. ⊎_elim (λ u. let l : j < i = ltb-true j i u in let m : 2 ^ suc j ≤ 2 ^ i = pow_mono l in absurd (omega arith))
    (λ u. le_antisymm (ltb-false j i u) (ltb-false i j t)) (decide (ltb j i)))
    (decide (ltb i j))

-- the place of the highest one-bit of n, as the machine counts the zeros before it
pub record TopBit (n z : ℕ) : Type 0 where
  pub zeros : z ≤ 63
  pub low : 2 ^ (63 - z) ≤ n
  pub high : n < 2 ^ suc (63 - z)

pub top_bit : (n : ℕ) → 0 < n → n < 2 ^ 64 → TopBit n (count_leading_zeros 64 n)
top_bit n p l =
    let r = leading_top 64 n p l in
    let e : 63 - count_leading_zeros 64 n ≡ r.0 = omega (arith, r.1) in
    record { zeros = omega (arith, r.1); low = rw e r.2; high = rw e r.3 }

-- what a higher power divides a lower one divides
pub divides_lower : (i j n : ℕ) → i ≤ j → n % 2 ^ j ≡ 0 → n % 2 ^ i ≡ 0
divides_lower i j n l h =
    let p : 2 ^ j ≡ 2 ^ i * 2 ^ (j - i) = pow_part i j l in
    let d : 2 ^ j * (n / 2 ^ j) + n % 2 ^ j ≡ n = div-add-mod n (2 ^ j) in
    mod_unique (2 ^ i) 0 n 0 (2 ^ (j - i) * (n / 2 ^ j)) (pow_pos i)
    (let e : 2 ^ i * 2 ^ (j - i) * (n / 2 ^ j) ≡ 2 ^ j * (n / 2 ^ j) = ap (λ q. q * (n / 2 ^ j)) (sym p) in omega arith)

pub ne_zero_pos : (n : ℕ) → (n ≡ 0 → ⊥) → 0 < n
ne_zero_pos zero h = absurd (h refl)
ne_zero_pos (suc n) h = omega arith
