-- The low zeros of a number: which power of two is the last that divides it. They number the channel that is added,
-- once over floor, count, cap and tick, below, at and above zero. Rests on the laws of the lanes.
use mathlib.Core.Path.{◌≡◌, refl, sym, ap, ◌∙◌}
use mathlib.Core.Bool.{Bool, true, false, not}
use mathlib.Core.Logic.{⊎_elim}
use Prim.Native.Nat.{ℕ, zero, suc, ◌+◌, ◌-◌, ◌*◌, ◌/◌, ◌%◌, ◌^◌, ◌≤◌, ◌<◌, min}
use native.Mathlib.Omega.{arith}
use native.Mathlib.Nat.{div-add-mod, le_antisymm, pow-succ'}
use lib.Count.{count_trailing_zeros, under, trailing_le}
use native.Mathlib.Numerals.{add-one}
use lib.Dec.{ltb, eqb}
use lib.Pow.{pow_pos, pow_mono}
use borrow.Author.Tests.{ltb-true, ltb-false, eqb-true, eqb-false, ne_eqb, not-true}
use Rattle.rules.specs.Search.{first}
use Rattle.rules.proofs.Tests.{decide}
use Rattle.rules.proofs.Search.{first_le, first_hit_lem, first_least}
use Rattle.grid.specs.Ticks.{slot}
use Rattle.grid.specs.Channels.{shift}
use Rattle.grid.specs.Lanes.{added_channel}
use Rattle.grid.specs.Bounds.{IsChannel}
use Rattle.grid.specs.Lifted.{shifted_sum}
use Rattle.grid.proofs.Numbers.{mod_unique, mod_same, divides_lower, pow_part}
use Rattle.grid.proofs.Channels.{lifted, next_slot}
use Rattle.grid.proofs.Lanes.{spare, added_spare}

-- ---- low zeros, and what the language counts

-- z of the k lowest digits of n are zeros, up to its lowest one
pub record LowZeros (k n z : ℕ) : Type 0 where
  pub most : z ≤ k
  pub zeros : n % 2 ^ z ≡ 0
  pub one : z < k → n % 2 ^ suc z ≡ 0 → ⊥

-- a number that is a multiple of m leaves nothing
nothing_left : (m q n : ℕ) → 0 < m → n ≡ m * q → n % m ≡ 0
nothing_left m q n p e = mod_unique m 0 n 0 q p (omega arith)

-- half of an even number has one zero less
module _ (n z : ℕ) (even : n % 2 ≡ 0) where
  doubled : n / 2 % 2 ^ z ≡ 0 → n % 2 ^ suc z ≡ 0
  doubled h =
      let d : 2 ^ z * (n / 2 / 2 ^ z) + n / 2 % 2 ^ z ≡ n / 2 = div-add-mod (n / 2) (2 ^ z) in
      let e : 2 ^ suc z * (n / 2 / 2 ^ z) ≡ 2 * 2 ^ z * (n / 2 / 2 ^ z) =
      ap (λ p. p * (n / 2 / 2 ^ z)) (pow-succ' 2 z) in
      nothing_left (2 ^ suc z) (n / 2 / 2 ^ z) n (pow_pos (suc z)) (omega arith)

  halved : n % 2 ^ suc z ≡ 0 → n / 2 % 2 ^ z ≡ 0
  halved h =
      let d : 2 ^ suc z * (n / 2 ^ suc z) + n % 2 ^ suc z ≡ n = div-add-mod n (2 ^ suc z) in
      let e : 2 ^ suc z * (n / 2 ^ suc z) ≡ 2 * 2 ^ z * (n / 2 ^ suc z) =
      ap (λ p. p * (n / 2 ^ suc z)) (pow-succ' 2 z) in
      nothing_left (2 ^ z) (n / 2 ^ suc z) (n / 2) (pow_pos z) (omega arith)

-- what the language counts
pub zeros_are : (k n : ℕ) → LowZeros k n (count_trailing_zeros k n)
unfolding count_trailing_zeros
zeros_are zero n =
    record {
      most = omega arith;
      zeros = nothing_left 1 n n (omega arith) (omega arith);
      one = λ l. absurd (omega arith);
    }
zeros_are (suc k) n = ⊎_elim (even (zeros_are k (n / 2))) odd (decide (eqb (n % 2) 0))
  where
    even : LowZeros k (n / 2) (count_trailing_zeros k (n / 2)) → eqb (n % 2) 0 ≡ true
        → LowZeros (suc k) n (under (n % 2) (count_trailing_zeros k (n / 2)))
    even h b =
        let z : ℕ = count_trailing_zeros k (n / 2) in
        let e : n % 2 ≡ 0 = eqb-true (n % 2) 0 b in
        rw e
        (record {
          most = omega (arith, h.most);
          zeros = doubled n z e h.zeros;
          one = λ l d. h.one (omega arith) (halved n (suc z) e d);
        })

    odd : eqb (n % 2) 0 ≡ false → LowZeros (suc k) n (under (n % 2) (count_trailing_zeros k (n / 2)))
    odd b =
        let e : n % 2 ≡ 1 = omega (arith, eqb-false (n % 2) 0 b) in
        rw e
        (record {
          most = omega arith;
          zeros = nothing_left 1 n n (omega arith) (omega arith);
          one = λ l d. omega arith;
        })

-- ---- one number only, and of fewer digits

-- there is only one such number
zeros_below : (k n z y : ℕ) → LowZeros k n z → LowZeros k n y → z < y → ⊥
zeros_below k n z y a b l = a.one (omega (arith, b.most)) (divides_lower (suc z) y n l b.zeros)

pub zeros_only : (k n z y : ℕ) → LowZeros k n z → LowZeros k n y → z ≡ y
zeros_only k n z y a b =
    ⊎_elim (λ t. absurd (zeros_below k n z y a b (ltb-true z y t)))
    (λ t. ⊎_elim (λ u. absurd (zeros_below k n y z b a (ltb-true y z u)))
    (λ u. le_antisymm (ltb-false y z u) (ltb-false z y t)) (decide (ltb y z)))
    (decide (ltb z y))

-- of fewer digits, as many zeros or all of them
pub zeros_capped : (m k n : ℕ) → k ≤ m → k ≤ count_trailing_zeros m n → k ≡ count_trailing_zeros k n
zeros_capped m k n l h =
    zeros_only k n k (count_trailing_zeros k n)
    (record {
      most = omega arith;
      zeros = divides_lower k (count_trailing_zeros m n) n h (zeros_are m n).zeros;
      one = λ b. absurd (omega arith);
    })
    (zeros_are k n)

pub zeros_fewer : (m k n : ℕ) → k ≤ m → count_trailing_zeros m n < k → count_trailing_zeros m n ≡ count_trailing_zeros k n
zeros_fewer m k n l h =
    let a = zeros_are m n in
    zeros_only k n (count_trailing_zeros m n) (count_trailing_zeros k n)
    (record { most = omega arith; zeros = a.zeros; one = λ b. a.one (omega arith) })
    (zeros_are k n)

-- and so the fewer of the two
pub zeros_few : (m k n : ℕ) → k ≤ m → min (count_trailing_zeros m n) k ≡ count_trailing_zeros k n
zeros_few m k n l =
    ⊎_elim (λ b. omega (arith, ltb-true _ _ b, zeros_fewer m k n l (ltb-true _ _ b)))
    (λ b. omega (arith, ltb-false _ _ b, zeros_capped m k n l (ltb-false _ _ b))) (decide (ltb (count_trailing_zeros m n) k))

-- ---- zeros by the powers that divide

-- the first power of two that does not divide a number
zeros_first : (k n z : ℕ) → LowZeros k n z → first (λ d. not (eqb (n % 2 ^ suc d) 0)) k ≡ z
zeros_first k n z h = le_antisymm upper lower
  where
    p : ℕ → Bool
    p d = not (eqb (n % 2 ^ suc d) 0)

    upper : first p k ≤ z
    upper =
        ⊎_elim (λ t. first_least p k z (ap not (ne_eqb (n % 2 ^ suc z) 0 (h.one (ltb-true z k t)))))
        (λ t. let a : k ≤ z = ltb-false z k t in let b : first p k ≤ k = first_le p k in omega arith) (decide (ltb z k))

    lower : z ≤ first p k
    lower =
        ⊎_elim
        (λ t. let f : first p k < z = ltb-true (first p k) z t in
        let g =
        eqb-false (n % 2 ^ suc (first p k)) 0
        (not-true (eqb (n % 2 ^ suc (first p k)) 0) (first_hit_lem p k (omega (arith, h.most)))) in
        absurd (g (divides_lower (suc (first p k)) z n f h.zeros)))
        (λ t. ltb-false (first p k) z t)
        (decide (ltb (first p k) z))

-- numbers that the same powers of two divide have the same zeros
zeros_alike : (k n m z : ℕ) → ((i : ℕ) → i ≤ k → n % 2 ^ i ≡ 0 → m % 2 ^ i ≡ 0)
    → ((i : ℕ) → i ≤ k → m % 2 ^ i ≡ 0 → n % 2 ^ i ≡ 0) → LowZeros k n z → LowZeros k m z
zeros_alike k n m z f g h =
    record { most = h.most; zeros = f z h.most h.zeros; one = λ l d. h.one l (g (suc z) l d) }

-- two numbers that together are a multiple: what divides one divides the other
opposite : (P x y r : ℕ) → 0 < P → x + y ≡ P * r → x % P ≡ 0 → y % P ≡ 0
opposite P x y r p e h =
    let d : P * (x / P) + x % P ≡ x = div-add-mod x P in
    mod_unique P 0 y (x / P) r p (omega arith)

-- ---- the channel that is added

module _ (A K l t : ℕ) where
  -- the next_slot is that sum, or what it lacks to 2^(l + 1)
  turn_above : shift A (suc l) ≤ t / slot K (suc l) + 1 → next_slot A K l t ≡ shifted_sum A K l t + 2 ^ suc l
  unfolding next_slot lifted shift
  turn_above h =
      let p : 2 ^ (suc l - A) ≤ 2 ^ suc l = pow_mono (omega arith) in
      let o : 0 < 2 ^ (suc l - A) = pow_pos (suc l - A) in
      omega arith

  turn_below : t / slot K (suc l) + 1 < shift A (suc l) → shifted_sum A K l t + next_slot A K l t ≡ 2 ^ suc l
  unfolding next_slot lifted shift
  turn_below h =
      let p : 2 ^ (suc l - A) ≤ 2 ^ suc l = pow_mono (omega arith) in
      let o : 0 < 2 ^ (suc l - A) = pow_pos (suc l - A) in
      omega arith

  turn_zeros : LowZeros l (next_slot A K l t) (count_trailing_zeros l (shifted_sum A K l t))
  turn_zeros = ⊎_elim below above (decide (ltb (t / slot K (suc l) + 1) (shift A (suc l))))
    where
      below : ltb (t / slot K (suc l) + 1) (shift A (suc l)) ≡ true
          → LowZeros l (next_slot A K l t) (count_trailing_zeros l (shifted_sum A K l t))
      below b =
          let e = turn_below (ltb-true (t / slot K (suc l) + 1) (shift A (suc l)) b) in
          zeros_alike l (shifted_sum A K l t) (next_slot A K l t) (count_trailing_zeros l (shifted_sum A K l t))
          (λ i h. opposite (2 ^ i) (shifted_sum A K l t) (next_slot A K l t) (2 ^ (suc l - i)) (pow_pos i)
          (e ∙ pow_part i (suc l) (omega arith)))
          (λ i h.
          opposite (2 ^ i) (next_slot A K l t) (shifted_sum A K l t) (2 ^ (suc l - i)) (pow_pos i)
          (omega (arith, e, pow_part i (suc l) (omega arith))))
          (zeros_are l (shifted_sum A K l t))

      above : ltb (t / slot K (suc l) + 1) (shift A (suc l)) ≡ false
          → LowZeros l (next_slot A K l t) (count_trailing_zeros l (shifted_sum A K l t))
      above b =
          let e = turn_above (ltb-false (t / slot K (suc l) + 1) (shift A (suc l)) b) in
          let same : (i : ℕ) → i ≤ l → next_slot A K l t % 2 ^ i ≡ shifted_sum A K l t % 2 ^ i =
          λ i h. mod_same (2 ^ i) (shifted_sum A K l t) (next_slot A K l t) 0 (2 ^ (suc l - i))
          (omega (arith, e, pow_part i (suc l) (omega arith))) in
          zeros_alike l (shifted_sum A K l t) (next_slot A K l t) (count_trailing_zeros l (shifted_sum A K l t)) (λ i h z. same i h ∙ z)
          (λ i h z. sym (same i h) ∙ z)
          (zeros_are l (shifted_sum A K l t))

  -- its low zeros, at most l, are the number of the channel whose cell is new
  pub zeros_added : A ≤ l → l < K → count_trailing_zeros l (shifted_sum A K l t) ≡ added_channel A K l t
  unfolding spare
  zeros_added low high =
      sym (added_spare A K l t low high ∙ zeros_first l (next_slot A K l t) (count_trailing_zeros l (shifted_sum A K l t)) turn_zeros)

-- and the channel, from the parts by which code computes it
pub parts_added : (A K l t w s m r : ℕ) → A ≤ l → l < K → w ≡ slot K (l + 1) → s ≡ shift A (l + 1)
    → m ≡ (t / w + 1 - s) + (s - (t / w + 1)) → r ≡ count_trailing_zeros l m → IsChannel (suc l) (added_channel A K l t) r
parts_added A K l t w s m r low high e f g h =
    let q : m ≡ shifted_sum A K l t = g ∙ rw (e, f, add-one l) refl in
    let z : r ≡ count_trailing_zeros l (shifted_sum A K l t) = h ∙ ap (count_trailing_zeros l) q in
    record { is = z ∙ zeros_added A K l t low high; within = omega (arith, z, trailing_le l (shifted_sum A K l t)) }
