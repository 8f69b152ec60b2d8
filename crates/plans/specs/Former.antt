-- The plan's order of refusals as it stood before 02's request 4, with one number for a wrong count.
use Rattle.std.specs.Prelude.{not, List, [], ◌∷◌, ℕ, ltb}
use Rattle.rules.specs.Limits.{either, within}
use Rattle.rules.specs.Refusals.{Rule, refuse, outside_limits, not_at_slot, wrong_rows}
use Rattle.grid.specs.Ticks.{cells}
use Rattle.scheme.specs.Scheme.{padded, starts}
use Rattle.plans.specs.Padded.{plan_limits}

-- 1 6 8 10
abbrev pub former_plan_rules : ℕ → ℕ → ℕ → ℕ → ℕ → List Rule
former_plan_rules A K k a n =
    refuse outside_limits (not (plan_limits A K k a))
    ∷ refuse 6 (either (ltb K A) (not (within A K k)))
    ∷ refuse not_at_slot (not (starts (padded A K) k a))
    ∷ refuse wrong_rows (ltb n (cells K))
    ∷ []
