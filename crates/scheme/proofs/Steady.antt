-- The steady lanes of a skip-forward title are lawful, for K lanes. Rests on their laws, and on when a box takes each cell.
use mathlib.Core.Path.{◌≡◌, refl}
use Prim.Native.Nat.{ℕ, ◌-◌, ◌^◌, ◌<◌}
use native.Mathlib.Omega.{arith}
use lib.Pow.{pow_pos}
use Rattle.grid.specs.Ticks.{rounded_up}
use Rattle.scheme.specs.Scheme.{steady}
use Rattle.scheme.specs.Lawful.{Lawful}
use Rattle.scheme.proofs.Clock.{film_within}
use Rattle.scheme.proofs.SteadyLanes.{every_tick, one_lane, steady_repeats, period_fits}
use Rattle.scheme.proofs.Turns.{comes}

pub steady_lawful : (D K : ℕ) → 0 < K → Lawful steady D (rounded_up D (2 ^ (K - 1))) K K
steady_lawful D K pos =
    record {
      slot_pos = λ k. omega arith;
      slots_nest = λ m c t l h. every_tick c t;
      on_lane_holds = λ k d t low high b. (d, b, refl);
      off_lane = λ k l d t low above high b e. omega (arith, one_lane d l t t e);
      repeats = steady_repeats K;
      spans = λ k d high b. period_fits K d (omega arith);
      in_time = λ k a c low high start film.
          let e : k ≡ K = omega arith in
          rw e (comes K a c pos (film_within D (2 ^ (K - 1)) c (pow_pos (K - 1)) film));
    }
