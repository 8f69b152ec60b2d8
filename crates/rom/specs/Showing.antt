-- When a cell is first shown on lanes, of which f says the number of each lane at each tick: what a box with a table notes of it
-- (02, request 6). The lanes are the grid's, or those of a lent table.
use Rattle.std.specs.Prelude.{ℕ, ◌+◌, Bool, ltb, eqb}
use Rattle.rules.specs.Refusals.{pick}
use Rattle.rules.specs.Search.{some, first}
use Rattle.plans.specs.Padded.{never}

-- one of lanes 0 to l - 1 shows cell c at tick t
unfoldable pub is_on_lanes : (ℕ → ℕ → ℕ) → ℕ → ℕ → ℕ → Bool
is_on_lanes f l t c = some (λ i. eqb (f i t) c) l

-- how many ticks after a that is first so, of n ticks; n where it is at none
unfoldable pub shown_after : (ℕ → ℕ → ℕ) → ℕ → ℕ → ℕ → ℕ → ℕ
shown_after f k a n c = first (λ o. is_on_lanes f k (a + o) c) n

-- the number of its place after n ticks
unfoldable pub seen_within : (ℕ → ℕ → ℕ) → ℕ → ℕ → ℕ → ℕ → ℕ
seen_within f k a n c = pick (ltb (shown_after f k a n c) n) (shown_after f k a n c) never
