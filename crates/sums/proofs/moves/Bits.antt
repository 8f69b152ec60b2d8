-- A register is moved on by as many bits as the highest bit was: `moved_to` puts each of its bits where that bit came to.
-- Rests on the laws of the shift.
use mathlib.Core.Path.{◌≡◌, refl, sym, ap, ap₂, ◌∙◌}
use mathlib.Core.Bool.{Bool, true, false}
use Prim.Native.Nat.{ℕ, zero, suc, ◌+◌, ◌-◌, ◌*◌, ◌/◌, ◌%◌, ◌≤◌, ◌<◌, ◌^◌}
use native.Mathlib.Omega.{arith}
use native.Mathlib.Nat.{mod-lt, mod-one, mod-eq_of_lt, mul-le-mul_right, mul-one}
use lib.Arith.{mod-mul}
use lib.Bits.{bit_xor, xor_comm, xor_shifted, xor_zero_r, shifted_half, shifted_even}
use lib.Dec.{eqb}
use lib.Pow.{pow-add, pow_pos}
use Rattle.rules.specs.Refusals.{pick}
use Rattle.sums.specs.Crc.{shifted, shifted_by}
use Rattle.sums.specs.inner.Moves.{highest, moved_to}
use Rattle.sums.proofs.moves.Linear.{by_xor, by_zero, by_next}

-- an even register loses its lowest place
shifted_even_half : (u j : ℕ) → shifted (u * 2 ^ suc j) ≡ u * 2 ^ j
shifted_even_half u j = rw (shifted_even u j) (shifted_half u j)

-- a bit above all others
over : (t j i u : ℕ) → t < 2 → i + j ≡ 31 → u < 2 ^ i → bit_xor (u * 2 ^ j) (pick (eqb t 1) highest 0) ≡ (t * 2 ^ i + u) * 2 ^ j
over zero j i u a s l = xor_zero_r (u * 2 ^ j) ∙ ap (λ n. n * 2 ^ j) (omega arith)
over (suc zero) j i u a s l =
    let p : 2 ^ i * 2 ^ j ≡ 2 ^ 31 = sym (pow-add 2 i j) ∙ ap (λ n. 2 ^ n) s in
    let m : suc u * 2 ^ j ≤ 2 ^ i * 2 ^ j = mul-le-mul_right (2 ^ j) l in
    let o : 0 < 2 ^ j = pow_pos j in
    xor_comm (u * 2 ^ j) highest ∙ xor_shifted 1 31 (u * 2 ^ j) (omega arith) ∙ omega arith
over (suc (suc t)) j i u a s l = absurd (omega arith)

-- the lowest i bits of x, at the high end
abbrev low : ℕ → ℕ → ℕ
low x i = x % 2 ^ i * 2 ^ (32 - i)

low_next : (x i : ℕ) → i < 32 → low x (suc i) ≡ bit_xor (shifted (low x i)) (pick (eqb (x / 2 ^ i % 2) 1) highest 0)
low_next x i l =
    let e : 32 - i ≡ suc (32 - suc i) = omega arith in
    let t : 2 ^ suc i ≡ 2 * 2 ^ i = omega arith in
    let d : x % 2 ^ suc i ≡ x / 2 ^ i % 2 * 2 ^ i + x % 2 ^ i = rw t (mod-mul x {m = 2} {c = 2 ^ i} (omega arith) (pow_pos i)) in
    sym
    (ap (λ n. bit_xor (shifted (x % 2 ^ i * 2 ^ n)) (pick (eqb (x / 2 ^ i % 2) 1) highest 0)) e
    ∙ ap (λ n. bit_xor n (pick (eqb (x / 2 ^ i % 2) 1) highest 0)) (shifted_even_half (x % 2 ^ i) (32 - suc i))
    ∙ over (x / 2 ^ i % 2) (32 - suc i) i (x % 2 ^ i) (mod-lt (x / 2 ^ i) (omega arith)) (omega arith) (mod-lt x (pow_pos i))
    ∙ ap (λ n. n * 2 ^ (32 - suc i)) (sym d))

-- nothing is moved to nothing
pick_by : (n : ℕ) (b : Bool) → pick b (shifted_by n highest) 0 ≡ shifted_by n (pick b highest 0)
pick_by n true = refl
pick_by n false = sym (by_zero n)

moved_low : (x n i : ℕ) → i ≤ 32 → moved_to x (shifted_by n highest) i ≡ shifted_by n (low x i)
unfolding moved_to
moved_low x n zero l = sym (rw (mod-one x) (by_zero n))
moved_low x n (suc i) l =
    let b : Bool = eqb (x / 2 ^ i % 2) 1 in
    ap₂ bit_xor (ap shifted (moved_low x n i (omega arith)) ∙ sym (by_next n (low x i))) (pick_by n b)
    ∙ sym (by_xor n (shifted (low x i)) (pick b highest 0))
    ∙ ap (shifted_by n) (sym (low_next x i (omega arith)))

pub moved_by : (x n : ℕ) → x < 2 ^ 32 → moved_to x (shifted_by n highest) 32 ≡ shifted_by n x
moved_by x n l = moved_low x n 32 (omega arith) ∙ ap (shifted_by n) (mul-one (x % 2 ^ 32) ∙ mod-eq_of_lt l)
