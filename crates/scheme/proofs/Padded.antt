-- The padded grid is lawful. Rests on the grid's laws of lanes, and on when a box takes each cell.
use mathlib.Core.Path.{◌≡◌, refl}
use mathlib.Core.Bool.{true}
use Prim.Native.Nat.{ℕ, suc, ◌-◌, ◌*◌, ◌^◌, ◌%◌, ◌≤◌, ◌<◌}
use native.Mathlib.Omega.{arith}
use native.Mathlib.Nat.{mul-le-mul_left}
use lib.Pow.{pow_pos, pow_mono}
use borrow.Author.Tests.{eqb-true, eq-eqb, ltb-true}
use Rattle.grid.specs.Ticks.{slot, tick_of}
use Rattle.grid.proofs.Numbers.{divides_lower}
use Rattle.grid.proofs.Ticks.{slot_pos, half_cells}
use Rattle.grid.proofs.Lanes.{lane_of_cell, lane_not_in, lane_period}
use Rattle.scheme.specs.Scheme.{padded, starts, film_in}
use Rattle.scheme.specs.Lawful.{Lawful}
use Rattle.scheme.proofs.Clock.{film_within}
use Rattle.scheme.proofs.Waits.{in_time}

nests : (A K m c t : ℕ) → m ≤ c → starts (padded A K) m t ≡ true → starts (padded A K) c t ≡ true
unfolding starts slot
nests A K m c t l h =
    eq-eqb (t % slot K c) 0 (divides_lower (K - c) (K - m) t (omega arith) (eqb-true (t % slot K m) 0 h))

pub spans_fit : (K k d : ℕ) → k ≤ K → d < k → slot K k * 2 ^ d ≤ 2 ^ (K - 1)
spans_fit K k d l b =
    let m : 2 ^ d ≤ 2 ^ (k - 1) = pow_mono (omega arith) in
    let n : slot K k * 2 ^ d ≤ slot K k * 2 ^ (k - 1) = mul-le-mul_left (slot K k) m in
    omega (arith, half_cells K k (omega arith) l)

-- a cell with film is none of the last slot's
pub film_taken : (D A K k c : ℕ) → 0 < A → A ≤ k → k ≤ K → film_in D (tick_of D A K) c ≡ true → c < 2 ^ K - slot K k
unfolding tick_of slot
film_taken D A K k c p low high h =
    let m : 2 ^ (K - k) ≤ 2 ^ (K - A) = pow_mono (omega arith) in
    let n : 2 ^ suc (K - A) ≤ 2 ^ K = pow_mono (omega arith) in
    let o : 0 < 2 ^ (K - A) = pow_pos (K - A) in
    let j : c < 2 ^ K - 2 ^ (K - A) = film_within D (2 ^ K - 2 ^ (K - A)) c (omega arith) h in
    omega arith

pub padded_lawful : (D A K : ℕ) → 0 < A → A ≤ K → Lawful (padded A K) D (tick_of D A K) A K
padded_lawful D A K pos fit =
    record {
      slot_pos = slot_pos K;
      slots_nest = nests A K;
      on_lane_holds = λ k d t low high b. lane_of_cell A K k t _ low high (d, b, refl);
      off_lane = λ k l d t low above high b e. lane_not_in A K k l t low above high (d, b, e);
      repeats = λ l t b. lane_period A K t fit l b;
      spans = spans_fit K;
      in_time = λ k a c low high start film. in_time A K k a c high start (film_taken D A K k c pos low high film);
    }

-- an id that was never opened: no film, and no lanes
pub nothing_lawful : (tick : ℕ) → Lawful (padded 0 0) 0 tick 0 0
unfolding film_in
nothing_lawful tick =
    record {
      slot_pos = slot_pos 0;
      slots_nest = nests 0 0;
      on_lane_holds = λ k d t low high b. absurd (omega arith);
      off_lane = λ k l d t low above high b e. omega arith;
      repeats = λ l t b. absurd (omega arith);
      spans = spans_fit 0;
      in_time = λ k a c low high start film. absurd (omega (arith, ltb-true (c * tick) 0 film));
    }
