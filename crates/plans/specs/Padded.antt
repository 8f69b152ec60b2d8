-- What the plan gives for each cell, and what the call that writes it answers (01, "The box plan" and "Numbers that calls give
-- back").
use Rattle.std.specs.Prelude.{ℕ, ◌-◌, ◌^◌, Bool, not, List, [], ◌∷◌, leb, ltb}
use Rattle.rules.specs.Limits.{both, within, floor_min, floor_max, count_min, count_max, asked_max}
use Rattle.rules.specs.Refusals.{pick, Rule, refuse, first_hit, outside_limits, floor_above_cap, below_floor, above_cap}
use Rattle.rules.specs.Refusals.{not_at_slot, wrong_rows}
use Rattle.grid.specs.Ticks.{cells}
use Rattle.scheme.specs.Scheme.{padded, starts, taken_after}

-- the place of a cell that is never taken
abbrev pub never : ℕ
never = 65535

-- what the plan gives for cell c: its tick minus a, by the padded grid
unfoldable pub plan_at : ℕ → ℕ → ℕ → ℕ → ℕ → ℕ
plan_at A K k a c =
    pick (ltb (taken_after (padded A K) K k a c) (2 ^ (K - 1))) (taken_after (padded A K) K k a c) never

-- the call's four numbers are within their limits
abbrev pub plan_limits : ℕ → ℕ → ℕ → ℕ → Bool
plan_limits A K k a =
    both (within floor_min floor_max A)
    (both (within count_min count_max K) (both (within count_min count_max k) (leb a asked_max)))

-- the call's order of refusals and its answer, for a lent row of n places
abbrev pub plan_rules : ℕ → ℕ → ℕ → ℕ → ℕ → List Rule
plan_rules A K k a n =
    refuse outside_limits (not (plan_limits A K k a))
    ∷ refuse floor_above_cap (ltb K A)
    ∷ refuse below_floor (ltb k A)
    ∷ refuse above_cap (ltb K k)
    ∷ refuse not_at_slot (not (starts (padded A K) k a))
    ∷ refuse wrong_rows (ltb n (cells K))
    ∷ []

unfoldable pub plan_answer : ℕ → ℕ → ℕ → ℕ → ℕ → ℕ
plan_answer A K k a n = first_hit (plan_rules A K k a n)
