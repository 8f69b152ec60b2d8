-- Laws of the steady lanes of a skip-forward title: lane i from 1 on has the cells from 2^(i-1) up to its double, no other lane has
-- them, each comes once in every 2^(i-1) ticks, and K lanes repeat after 2^(K-1). Rest on remainders by powers of two.
use mathlib.Core.Path.{◌≡◌, refl, ap, ◌∙◌}
use mathlib.Core.Bool.{true}
use Prim.Native.Nat.{ℕ, zero, suc, ◌+◌, ◌-◌, ◌*◌, ◌%◌, ◌^◌, ◌≤◌, ◌<◌}
use native.Mathlib.Omega.{arith}
use native.Mathlib.Nat.{mod-lt, add-mul-mod_self_left}
use lib.Count.{leading_top}
use lib.Pow.{pow_pos, pow_mono}
use borrow.Author.Tests.{eq-eqb}
use Rattle.grid.proofs.Numbers.{mod_unique, pow_part, top_unique, until, turn_to, turn_only}
use Rattle.scheme.specs.Scheme.{steady, starts, period, steady_cell}

-- each tick is a slot start
pub every_tick : (k t : ℕ) → starts steady k t ≡ true
unfolding starts
every_tick k t = eq-eqb (t % 1) 0 (mod_unique 1 0 t 0 t (omega arith) (omega arith))

-- ---- the cells of a lane

pub cell_range : (i t : ℕ) → (2 ^ i ≤ steady_cell (suc i) t) × (steady_cell (suc i) t < 2 ^ suc i)
unfolding steady_cell
cell_range i t = let r : t % 2 ^ i < 2 ^ i = mod-lt t (pow_pos i) in (omega arith, omega arith)

-- the lane that has a cell after the first
pub carrier : (K c : ℕ) → 0 < c → c < 2 ^ (K - 1) → (i : ℕ) × (suc i < K) × (2 ^ i ≤ c) × (c < 2 ^ suc i)
carrier K c pos b =
    let r = leading_top (K - 1) c pos b in
    (r.0, omega (arith, r.1), r.2, r.3)

-- no other lane has it
pub lane_of : (i c d t : ℕ) → 2 ^ i ≤ c → c < 2 ^ suc i → steady_cell d t ≡ c → d ≡ suc i
unfolding steady_cell
lane_of i c zero t low high e = let p : 0 < 2 ^ i = pow_pos i in absurd (omega arith)
lane_of i c (suc d) t low high e =
    ap suc (top_unique d i c (omega (arith, cell_range d t)) (omega (arith, cell_range d t)) low high)

-- and the first is on lane 0 alone
pub first_lane_of : (d t : ℕ) → steady_cell d t ≡ 0 → d ≡ 0
first_lane_of zero t e = refl
first_lane_of (suc d) t e = let p : 0 < 2 ^ d = pow_pos d in absurd (omega (arith, cell_range d t))

-- so lanes that have one cell, at whatever ticks, are one
pub one_lane : (d l t u : ℕ) → steady_cell d t ≡ steady_cell l u → d ≡ l
unfolding steady_cell
one_lane d zero t u e = first_lane_of d t e
one_lane d (suc i) t u e = lane_of i (steady_cell (suc i) u) d t (cell_range i u).0 (cell_range i u).1 e

-- ---- when they come

-- cell c of lane i + 1 comes once in the 2^i ticks from any tick on
pub comes_at : (i a c : ℕ) → 2 ^ i ≤ c → c < 2 ^ suc i → steady_cell (suc i) (a + until (2 ^ i) a c) ≡ c
unfolding steady_cell
comes_at i a c low high = rw (turn_to (2 ^ i) a c (pow_pos i) low (omega arith)) (omega arith)

pub comes_only : (i a c o : ℕ) → o < 2 ^ i → steady_cell (suc i) (a + o) ≡ c → until (2 ^ i) a c ≡ o
unfolding steady_cell
comes_only i a c o b h =
    let r : (a + o) % 2 ^ i < 2 ^ i = mod-lt (a + o) (pow_pos i) in
    turn_only (2 ^ i) a c o (pow_pos i) (omega arith) (omega arith) b (omega arith)

-- the period of K lanes
pub steady_repeats : (K l t : ℕ) → l < K → steady_cell l (t + 2 ^ (K - 1)) ≡ steady_cell l t
unfolding steady_cell
steady_repeats K zero t b = refl
steady_repeats K (suc i) t b =
    let e : t + 2 ^ (K - 1) ≡ t + 2 ^ i * 2 ^ (K - 1 - i) = ap (λ n. t + n) (pow_part i (K - 1) (omega arith)) in
    ap (λ n. 2 ^ i + n) (ap (λ n. n % 2 ^ i) e ∙ add-mul-mod_self_left t (2 ^ i) (2 ^ (K - 1 - i)))

-- no lane is taken for longer
pub period_fits : (K d : ℕ) → d < K → period d ≤ 2 ^ (K - 1)
period_fits K zero b = pow_pos (K - 1)
period_fits K (suc d) b = pow_mono (omega arith)
