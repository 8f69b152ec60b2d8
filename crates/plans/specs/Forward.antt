-- The plan of a box of a skip-forward title, and the call that writes it (02, 12). Block n counts as cell n - 1.
use Rattle.std.specs.Prelude.{ℕ, ◌-◌, ◌^◌, Bool, not, List, [], ◌∷◌, leb, ltb}
use Rattle.rules.specs.Limits.{both, within, count_min, steady_max, asked_max}
use Rattle.rules.specs.Refusals.{Rule, refuse, first_hit, outside_limits, wrong_rows}
use Rattle.scheme.specs.Scheme.{steady, taken_after}

-- the blocks of the film on k lanes
abbrev pub blocks : ℕ → ℕ
blocks k = 2 ^ (k - 1)

-- what the plan gives for cell c of a box that starts at tick a: how many ticks later it takes the cell, at the first occurrence
abbrev pub skip_at : ℕ → ℕ → ℕ → ℕ
skip_at k a c = taken_after steady k k a c

-- the call's two numbers are within their limits
abbrev pub skip_plan_limits : ℕ → ℕ → Bool
skip_plan_limits k a = both (within count_min steady_max k) (leb a asked_max)

-- the call's order of refusals and its answer, for a lent row of n places
abbrev pub skip_rules : ℕ → ℕ → ℕ → List Rule
skip_rules k a n = refuse outside_limits (not (skip_plan_limits k a)) ∷ refuse wrong_rows (ltb n (blocks k)) ∷ []

unfoldable pub skip_answer : ℕ → ℕ → ℕ → ℕ
skip_answer k a n = first_hit (skip_rules k a n)
