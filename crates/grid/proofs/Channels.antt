-- Laws of the shifted grid: the signed slot difference crosses to one natural number, `lifted`, whose remainder
-- by 2^d is the place of channel d within its segments. Rest on the laws of remainders.
use mathlib.Core.Path.{◌≡◌, refl, sym, ap, ◌∙◌}
use mathlib.Core.Logic.{⊎_elim}
use Prim.Native.Nat.{ℕ, zero, suc, ◌+◌, ◌-◌, ◌*◌, ◌/◌, ◌%◌, ◌^◌, ◌≤◌, ◌<◌}
use native.Mathlib.Omega.{arith}
use native.Mathlib.Nat.{mod-lt, div-add-mod, mul_comm, div-div-eq-div-mul, pow-succ', eq_of_mul-eq-mul_left}
use native.Mathlib.Nat.{add_right_cancel, add-mul-div_left, add-mul-mod_self_left, mul-le-mul_right}
use lib.Arith.{mod-mul}
use lib.IntN.{pos, ◌-ℤ◌}
use lib.Dec.{ltb, eqb}
use lib.Pow.{pow_pos, pow_mono}
use borrow.Author.Tests.{ltb-true, ltb-false, eqb-true, eqb-false}
use Rattle.rules.proofs.Tests.{decide}
use Rattle.grid.specs.Ticks.{slot, cell_of}
use Rattle.grid.specs.Channels.{floor_rem, shift, segment, channel_cell}
use Rattle.grid.specs.Bounds.{IsCell}
unfoldable pub use Rattle.grid.specs.Lifted.{lifted, next_slot, raised}
use Rattle.grid.proofs.Ticks.{slot_pos, slot_half, half_cells, all_cells_lem}
use Rattle.grid.proofs.Numbers.{mod_unique, mod_same, pow_part, top_unique, ne_zero_pos}

-- ---- one natural for the shifted grid

-- the floor remainder of a difference: as many multiples of m added as keep it a natural number
pub diff_rem : (j s m q : ℕ) → 0 < m → s ≤ j + m * q → floor_rem (pos j -ℤ pos s) m ≡ (j + m * q - s) % m
unfolding floor_rem
diff_rem j zero m q p h = mod_same m (j + m * q - zero) (j + zero) q zero (omega arith)
diff_rem j (suc b) m q p h = ⊎_elim (λ t. rw t (below (ltb-true j (suc b) t))) (λ t. rw t (above (ltb-false j (suc b) t))) (decide (ltb j (suc b)))
  where
    below : j < suc b → m - 1 - (suc b - suc j) % m ≡ (j + m * q - suc b) % m
    below l =
        let n : ℕ = suc b - suc j in
        let r : n % m < m = mod-lt n p in
        let d : m * (n / m) + n % m ≡ n = div-add-mod n m in
        sym (mod_unique m (m - 1 - n % m) (j + m * q - suc b) (n / m + 1) q (omega arith) (omega arith))

    above : suc b ≤ j → (j - suc b) % m ≡ (j + m * q - suc b) % m
    above l = mod_same m (j + m * q - suc b) (j - suc b) q zero (omega arith)

-- the remainder of 01, as a remainder of the lifted slot
pub rem_lifted : (A k d j : ℕ) → d ≤ k → floor_rem (pos j -ℤ pos (shift A k)) (2 ^ d) ≡ lifted A k j % 2 ^ d
unfolding shift lifted
rem_lifted A k d j l =
    let e : 2 ^ k ≡ 2 ^ d * 2 ^ (k - d) = pow_part d k l in
    let s : 2 ^ (k - A) ≤ 2 ^ k = pow_mono (omega arith) in
    let o : 0 < 2 ^ (k - A) = pow_pos (k - A) in
    diff_rem j (2 ^ (k - A) - 1) (2 ^ d) (2 ^ (k - d)) (pow_pos d) (omega arith)
    ∙ ap (λ n. n % 2 ^ d) (omega arith)

-- the cell of a channel by the lifted slot
pub cell_lifted : (A K k d t : ℕ) → d ≤ k →
    channel_cell A K k d t ≡ (2 ^ d - 1 + lifted A k (t / slot K k) % 2 ^ d) * slot K k + t % slot K k
unfolding channel_cell cell_of segment
cell_lifted A K k d t l =
    rw (rem_lifted A k d (t / slot K k) l)
    (let p : 0 < 2 ^ d = pow_pos d in ap (λ n. n * slot K k + t % slot K k) (omega arith))

-- ---- from one count to the next

-- the lifted slot of one count more: Theorem 1 and the added channel follow from this equation
pub lifted_half : (A k j : ℕ) → A ≤ k → lifted A (suc k) j + 1 ≡ 2 * lifted A k (j / 2) + j % 2
unfolding lifted
lifted_half A k j l =
    let e : suc k - A ≡ suc (k - A) = omega arith in
    let s : 2 ^ (k - A) ≤ 2 ^ k = pow_mono (omega arith) in
    rw e (omega arith)

module _ (P X b Y : ℕ) (p : 0 < P) (bit : b < 2) (e : Y + 1 ≡ 2 * X + b) where
  both_rem : (Y + 1) % (2 * P) ≡ 2 * (X % P) + b
  both_rem =
      let r : X % P < P = mod-lt X p in
      let d : P * (X / P) + X % P ≡ X = div-add-mod X P in
      mod_unique (2 * P) (2 * (X % P) + b) (Y + 1) 0 (X / P) (omega arith) (omega arith)

  -- where 2P divides Y + 1, the half's place is the last of P
  same_place : (Y + 1) % (2 * P) ≡ 0 → 2 * (P - 1 + X % P) + b ≡ P - 1 + Y % P
  same_place z =
      let f : (Y + 1) % (2 * P) ≡ 2 * (X % P) + b = both_rem in
      let d : P * (X / P) + X % P ≡ X = div-add-mod X P in
      let g : Y % P ≡ P - 1 = mod_unique P (P - 1) Y 1 (2 * (X / P)) (omega arith) (omega arith) in
      omega arith

  -- elsewhere it is a place of 2P
  next_place : 0 < (Y + 1) % (2 * P) → 2 * (P - 1 + X % P) + b ≡ 2 * P - 1 + Y % (2 * P)
  next_place z =
      let f : (Y + 1) % (2 * P) ≡ 2 * (X % P) + b = both_rem in
      let r : X % P < P = mod-lt X p in
      let d : P * (X / P) + X % P ≡ X = div-add-mod X P in
      let g : Y % (2 * P) ≡ 2 * (X % P) + b - 1 = mod_unique (2 * P) (2 * (X % P) + b - 1) Y 0 (X / P) (omega arith) (omega arith) in
      omega arith

module _ (A K k t : ℕ) (low : A ≤ k) (high : k < K) where
  -- a cell of count k, by slots of count k + 1
  cell_halved : (d : ℕ) → d ≤ k →
      channel_cell A K k d t
      ≡ (2 * (2 ^ d - 1 + lifted A k (t / slot K (suc k) / 2) % 2 ^ d) + t / slot K (suc k) % 2) * slot K (suc k) + t % slot K (suc k)
  cell_halved d l =
      let w : ℕ = slot K (suc k) in
      let q : t / slot K k ≡ t / w / 2 = ap (λ n. t / n) (slot_half K k high ∙ mul_comm 2 w) ∙ sym (div-div-eq-div-mul t w 2) in
      let r : t % slot K k ≡ (t / w % 2) * w + t % w = ap (λ n. t % n) (slot_half K k high) ∙ mod-mul t (omega arith) (slot_pos K (suc k)) in
      cell_lifted A K k d t l ∙ rw (q, r, slot_half K k high) (omega arith)

  raise_same : (d : ℕ) → d < k → next_slot A K k t % 2 ^ suc d ≡ 0 → channel_cell A K k d t ≡ channel_cell A K (suc k) d t
  unfolding next_slot
  raise_same d l z =
      let j : ℕ = t / slot K (suc k) in
      cell_halved d (omega arith)
      ∙ ap (λ n. n * slot K (suc k) + t % slot K (suc k))
      (same_place (2 ^ d) (lifted A k (j / 2)) (j % 2) (lifted A (suc k) j) (pow_pos d) (omega arith) (lifted_half A k j low) (rw (← pow-succ' 2 d) z))
      ∙ sym (cell_lifted A K (suc k) d t (omega arith))

  raise_next : (d : ℕ) → d < k → 0 < next_slot A K k t % 2 ^ suc d →
      channel_cell A K k d t ≡ channel_cell A K (suc k) (suc d) t
  unfolding next_slot
  raise_next d l z =
      let j : ℕ = t / slot K (suc k) in
      cell_halved d (omega arith)
      ∙ ap (λ n. n * slot K (suc k) + t % slot K (suc k))
      (next_place (2 ^ d) (lifted A k (j / 2)) (j % 2) (lifted A (suc k) j) (pow_pos d) (omega arith) (lifted_half A k j low) (rw (← pow-succ' 2 d) z)
      ∙ rw (← pow-succ' 2 d) refl)
      ∙ sym (cell_lifted A K (suc k) (suc d) t (omega arith))

  -- Theorem 1 of source 000, channel by channel
  pub raise : (d : ℕ) → d < k → channel_cell A K k d t ≡ channel_cell A K (suc k) (raised A K k t d) t
  unfolding raised
  raise d l =
      ⊎_elim (λ h. rw h (raise_same d l (eqb-true (next_slot A K k t % 2 ^ suc d) 0 h)))
      (λ h. rw h (raise_next d l (ne_zero_pos (next_slot A K k t % 2 ^ suc d) (eqb-false (next_slot A K k t % 2 ^ suc d) 0 h))))
      (decide (eqb (next_slot A K k t % 2 ^ suc d) 0))

-- ---- apart, in a period, within the film

-- the k cells of a count at a tick are distinct
pub distinct : (A K k t i j : ℕ) → A ≤ k → k ≤ K → i < k → j < k → channel_cell A K k i t ≡ channel_cell A K k j t → i ≡ j
distinct A K k t i j low high li lj e =
    let w : ℕ = slot K k in
    let x : ℕ = lifted A k (t / w) in
    let ri : x % 2 ^ i < 2 ^ i = mod-lt x (pow_pos i) in
    let rj : x % 2 ^ j < 2 ^ j = mod-lt x (pow_pos j) in
    let f : (2 ^ i - 1 + x % 2 ^ i) * w + t % w ≡ (2 ^ j - 1 + x % 2 ^ j) * w + t % w = sym (cell_lifted A K k i t (omega arith)) ∙ e ∙ cell_lifted A K k j t (omega arith) in
    let g : w * (2 ^ i - 1 + x % 2 ^ i) ≡ w * (2 ^ j - 1 + x % 2 ^ j) = mul_comm w (2 ^ i - 1 + x % 2 ^ i) ∙ add_right_cancel (t % w) f ∙ mul_comm (2 ^ j - 1 + x % 2 ^ j) w in
    let s : 2 ^ i - 1 + x % 2 ^ i ≡ 2 ^ j - 1 + x % 2 ^ j = eq_of_mul-eq-mul_left w (slot_pos K k) (2 ^ i - 1 + x % 2 ^ i) (2 ^ j - 1 + x % 2 ^ j) g in
    top_unique i j (2 ^ i + x % 2 ^ i) (omega arith) (omega arith) (omega arith) (omega arith)

-- a slot later is a lifted slot later
pub lifted_add : (A k j o : ℕ) → lifted A k (j + o) ≡ lifted A k j + o
unfolding lifted
lifted_add A k j o = omega arith

-- the grid's period: 2^(K-1) ticks, for every count
pub channel_period : (A K k d t : ℕ) → k ≤ K → d < k → channel_cell A K k d (t + 2 ^ (K - 1)) ≡ channel_cell A K k d t
channel_period A K k d t high l =
    let w : ℕ = slot K k in
    let h : w * 2 ^ (k - 1) ≡ 2 ^ (K - 1) = half_cells K k (omega arith) high in
    let e : t + 2 ^ (K - 1) ≡ t + w * 2 ^ (k - 1) = ap (λ m. t + m) (sym h) in
    let q : (t + 2 ^ (K - 1)) / w ≡ t / w + 2 ^ (k - 1) = ap (λ m. m / w) e ∙ add-mul-div_left t (2 ^ (k - 1)) (slot_pos K k) in
    let r : (t + 2 ^ (K - 1)) % w ≡ t % w = ap (λ m. m % w) e ∙ add-mul-mod_self_left t w (2 ^ (k - 1)) in
    let p : 2 ^ (k - 1) ≡ 2 ^ d * 2 ^ (k - 1 - d) = pow_part d (k - 1) (omega arith) in
    let x : lifted A k (t / w + 2 ^ (k - 1)) % 2 ^ d ≡ lifted A k (t / w) % 2 ^ d =
    ap (λ m. m % 2 ^ d) (lifted_add A k (t / w) (2 ^ (k - 1)) ∙ ap (λ m. lifted A k (t / w) + m) p)
    ∙ add-mul-mod_self_left (lifted A k (t / w)) (2 ^ d) (2 ^ (k - 1 - d)) in
    cell_lifted A K k d (t + 2 ^ (K - 1)) (omega arith) ∙ rw (q, r, x) (sym (cell_lifted A K k d t (omega arith)))

-- every channel carries one of the 2^K cells
pub cell_within : (A K k d t : ℕ) → k ≤ K → d < k → channel_cell A K k d t < 2 ^ K
cell_within A K k d t high l =
    let w : ℕ = slot K k in
    let x : ℕ = lifted A k (t / w) % 2 ^ d in
    let b : x < 2 ^ d = mod-lt (lifted A k (t / w)) (pow_pos d) in
    let r : t % w < w = mod-lt t (slot_pos K k) in
    let m : 2 ^ suc d ≤ 2 ^ k = pow_mono l in
    let n : suc (2 ^ d - 1 + x) * w ≤ 2 ^ k * w = mul-le-mul_right w (omega arith) in
    omega (arith, cell_lifted A K k d t (omega arith), all_cells_lem K k high)

-- the cell, from the parts by which code computes it
pub cell_parts : (A K k d t p r w : ℕ) → k ≤ K → d < k → p ≡ 2 ^ d →
    r ≡ floor_rem (pos (t / w) -ℤ pos (shift A k)) (2 ^ d) → w ≡ slot K k →
    IsCell K (channel_cell A K k d t) ((p + r - 1) * w + t % w)
unfolding channel_cell cell_of segment
cell_parts A K k d t p r w high l e f g =
    let q : (p + r - 1) * w + t % w ≡ (2 ^ d + floor_rem (pos (t / slot K k) -ℤ pos (shift A k)) (2 ^ d) - 1) * slot K k + t % slot K k = rw (e, f, g) refl in
    record { is = q; within = rw q (cell_within A K k d t high l) }
