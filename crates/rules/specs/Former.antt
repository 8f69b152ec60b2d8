-- The numbers of the release before 02's request 4, in which 6 stood for four refusals of a count.
use Rattle.std.specs.Prelude.{ℕ}
use Rattle.rules.specs.Limits.{within}
use Rattle.rules.specs.Refusals.{pick, unchanged, below_floor, floor_above_cap}

-- what a number was: 13, 14 and 15 were 6, and every other number was itself
abbrev pub formerly : ℕ → ℕ
formerly n = pick (within below_floor floor_above_cap n) unchanged n
