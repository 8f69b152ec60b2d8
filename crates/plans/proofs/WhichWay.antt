-- The order of the release before, with one test and one number for a wrong count, answers what today's answers but for
-- that number: the same plans are done and the same refused.
-- Rests on the laws of former answers.
use mathlib.Core.Path.{◌≡◌, refl, sym, ap, ◌∙◌}
use mathlib.Core.Bool.{not}
use mathlib.Core.List.{List, [], ◌∷◌}
use Prim.Native.Nat.{ℕ}
use lib.Dec.{ltb, eqb}
use Rattle.rules.specs.Limits.{either}
use Rattle.rules.specs.Refusals.{Rule, refuse, first_hit, done, outside_limits, not_at_slot, wrong_rows}
use Rattle.rules.proofs.Refusals.{hit_same}
use Rattle.rules.specs.Former.{formerly}
use Rattle.rules.proofs.Former.{formerly_done, renumbered, former_hit, joined, outside}
use Rattle.grid.specs.Ticks.{cells}
use Rattle.scheme.specs.Scheme.{padded, starts}
use Rattle.plans.specs.Padded.{plan_rules, plan_answer}
use Rattle.plans.specs.Former.{former_plan_rules}

module _ (A K k a n : ℕ) where
  -- no other place of the order moved
  pub same_place : formerly (plan_answer A K k a n) ≡ first_hit (former_plan_rules A K k a n)
  unfolding plan_answer renumbered
  same_place =
      let rest : List Rule = refuse not_at_slot (not (starts (padded A K) k a)) ∷ refuse wrong_rows (ltb n (cells K)) ∷ [] in
      rw (outside A K k)
      (former_hit (plan_rules A K k a n)
      ∙ hit_same outside_limits _ _ _ _ refl
      (λ x.
      hit_same 6 _ _ _ _ refl (λ y. joined 6 (ltb k A) (ltb K k) rest)
      ∙ joined 6 (ltb K A) (either (ltb k A) (ltb K k)) rest))

  -- the test by which the lent row is written or left
  pub same_calls : eqb (first_hit (former_plan_rules A K k a n)) done ≡ eqb (plan_answer A K k a n) done
  same_calls = sym (ap (λ m. eqb m done) same_place) ∙ formerly_done (plan_answer A K k a n)
