-- The latest boxes of the counts that had a lane, a count at a time. Rests on the definition.
use mathlib.Core.Path.{◌≡◌, ◌∙◌}
use mathlib.Core.List.{List}
use mathlib.Core.Logic.{⊎_elim}
use Prim.Native.Nat.{ℕ, suc, ◌+◌, ◌-◌, ◌≤◌, ◌<◌, max}
use native.Mathlib.Omega.{arith}
use native.Mathlib.Nat.{pos_of_ne-zero}
use lib.Dec.{ltb, eqb}
use lib.ListN.{get_or}
use borrow.Author.Tests.{eq-eqb, ne_eqb, ltb-true, ltb-false}
use Rattle.rules.specs.Refusals.{pick}
use Rattle.rules.proofs.Tests.{decide, pick_true, pick_false}
use Rattle.rules.proofs.Search.{below_suc}
use Rattle.grid.specs.Ticks.{slot}
use Rattle.stretches.specs.inner.Walk.{IsMost, IsLatest}

module _ (ends : List ℕ) (by : ℕ → ℕ) (k : ℕ) where
  pub most_yet : (n : ℕ) → n ≤ k → IsMost ends by k n 0
  most_yet n none = record { bound = λ c from low. absurd (omega arith); hit = λ some. absurd (omega arith) }

  -- a count more, moved to m
  module _ (n until m : ℕ) (from : k ≤ n) (old : IsMost ends by k n until) (moved : m ≡ pick (eqb (get_or ends n 0) 0) 0 (get_or ends n 0 + by n)) where
    moved_is : 0 < get_or ends n 0 → m ≡ get_or ends n 0 + by n
    moved_is ruled = moved ∙ pick_false (eqb (get_or ends n 0) 0) 0 (get_or ends n 0 + by n) (ne_eqb (get_or ends n 0) 0 (λ z. omega arith))

    ruled_if : 0 < m → 0 < get_or ends n 0
    ruled_if some =
        pos_of_ne-zero
        (λ z. omega (arith, moved ∙ pick_true (eqb (get_or ends n 0) 0) 0 (get_or ends n 0 + by n) (eq-eqb (get_or ends n 0) 0 z)))

    pub most_more : IsMost ends by k (suc n) (max until m)
    most_more =
        record {
          bound = λ c h b ruled.
              ⊎_elim (λ x. let o = old.bound c h x ruled in omega arith) (λ x. rw x (omega (arith, moved_is (rw x at ruled)))) (below_suc c n b);
          hit = λ some.
              ⊎_elim
              (λ x.
              let later : until < m = ltb-true until m x in
              let ruled : 0 < get_or ends n 0 = ruled_if (omega arith) in
              (n, from, omega arith, ruled, omega (arith, moved_is ruled)))
              (λ x.
              let later : m ≤ until = ltb-false until m x in
              let o = old.hit (omega arith) in
              (o.0, o.1, omega (arith, o.2), o.3, omega (arith, o.4)))
              (decide (ltb until m));
        }

module _ (ends : List ℕ) (K l : ℕ) where
  pub latest_yet : IsLatest ends K l (l + 1) 0 0
  latest_yet =
      record { most = most_yet ends (λ c. slot K (suc l) - slot K c) (suc l) (l + 1) (omega arith); ended = λ c has low. absurd (omega arith) }

  pub latest_more : (n until end m : ℕ) → l < n → IsLatest ends K l n until end
      → m ≡ pick (eqb (get_or ends n 0) 0) 0 (get_or ends n 0 + (slot K (suc l) - slot K n))
      → IsLatest ends K l (suc n) (max until m) (max end (get_or ends n 0))
  latest_more n until end m has old moved =
      record {
        most = most_more ends (λ c. slot K (suc l) - slot K c) (suc l) n until m has old.most moved;
        ended = λ c h b. ⊎_elim (λ x. let o = old.ended c h x in omega arith) (λ x. rw x (omega arith)) (below_suc c n b);
      }
