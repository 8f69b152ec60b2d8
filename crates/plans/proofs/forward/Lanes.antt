-- The plan's numbers are those of the lanes' runs, and these behind the first block are the plan.
-- Rests on the plan's closed form and on the laws of runs.
use mathlib.Core.Path.{◌≡◌, sym, ap, ◌∙◌}
use mathlib.Core.List.{List}
use Prim.Native.Nat.{ℕ, ◌+◌, ◌-◌, ◌^◌, ◌≤◌, ◌<◌}
use native.Mathlib.Omega.{arith}
use native.Mathlib.Nat.{add-zero}
use lib.ListN.{set}
use lib.Pow.{pow_pos}
use Rattle.rules.specs.Limits.{count_min, steady_max}
use Rattle.grid.proofs.Numbers.{until}
use Rattle.scheme.proofs.SteadyLanes.{carrier}
use Rattle.plans.specs.Forward.{blocks, skip_at}
use Rattle.plans.specs.Row.{written}
use Rattle.plans.specs.inner.Rows.{written_from, runs_at}
use Rattle.plans.proofs.rows.Written.{from_same, from_join, from_first}
use Rattle.plans.proofs.rows.Places.{run_number}
use Rattle.plans.proofs.forward.Places.{first_after, later_after}

module _ (k a : ℕ) (low : count_min ≤ k) (high : k ≤ steady_max) where
  -- each block but the first has the number of its run
  run_plan : (c : ℕ) → 0 < c → c < blocks k → runs_at 0 a c ≡ skip_at k a c
  run_plan c p l =
      let r = carrier k c p l in
      run_number 0 a r.0 (omega (arith, r.1)) c (omega (arith, r.2)) (omega (arith, r.3))
      ∙ ap (until (2 ^ r.0) a) (add-zero c)
      ∙ sym (later_after k a (omega arith) r.0 c r.2 r.3 r.1)

  -- the first block, which is always on air, and the runs behind it
  pub runs_plan : (row x : List ℕ) → x ≡ written_from (runs_at 0 a) (set row 0 0) (2 ^ 0 - 0) (2 ^ (k - 1) - 2 ^ 0) →
      x ≡ written (skip_at k a) row (2 ^ (k - 1))
  unfolding written_from
  runs_plan row x p =
      let f : ℕ → ℕ = skip_at k a in
      let o : 0 < 2 ^ (k - 1) = pow_pos (k - 1) in
      let s : 1 + (2 ^ (k - 1) - 1) ≡ 2 ^ (k - 1) = omega arith in
      let b : set row 0 0 ≡ written_from f row 0 1 = ap (set row 0) (sym (first_after k a (omega arith))) in
      p
      ∙ from_same (runs_at 0 a) (set row 0 0) 1 f (2 ^ (k - 1) - 1) (λ i l. run_plan (1 + i) (omega arith) (omega arith))
      ∙ ap (λ r. written_from f r 1 (2 ^ (k - 1) - 1)) b
      ∙ from_join f row 0 1 (2 ^ (k - 1) - 1)
      ∙ ap (written_from f row 0) s
      ∙ from_first f row (2 ^ (k - 1))
