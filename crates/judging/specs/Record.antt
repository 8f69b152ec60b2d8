-- A record of the air (02, request 13): so many numbers a tick, tick 0 first, the cell that was seen on each lane of a title.
use Rattle.std.specs.Prelude.{ℕ, suc, ◌+◌, ◌*◌, ◌/◌, Bool, List, ltb, eqb, get_or, length}
use Rattle.rules.specs.Limits.{lane_places}
use Rattle.rules.specs.Refusals.{pick}
use Rattle.rules.specs.Search.{some, first}

-- the number that stands for nothing seen, and for no cell missed
abbrev pub nothing_seen : ℕ
nothing_seen = 65_535

-- the lowest number below n that passes a test, or nothing
unfoldable pub lowest : (ℕ → Bool) → ℕ → ℕ
lowest p n = pick (ltb (first p n) n) (first p n) nothing_seen

-- the most ticks of a record
abbrev pub ticks_max : ℕ
ticks_max = 4_096

-- the ticks of a record
abbrev pub ticks_in : List ℕ → ℕ
ticks_in r = length r / lane_places

-- what was seen on lane l at tick t
abbrev pub seen : List ℕ → ℕ → ℕ → ℕ
seen r t l = get_or r (t * lane_places + l) nothing_seen

-- some lane showed cell c at tick t
unfoldable pub is_shown : List ℕ → ℕ → ℕ → Bool
is_shown r c t = some (λ l. eqb (seen r t l) c) lane_places

-- some lane showed cell c from tick a through its turn, which is tick a + c
unfoldable pub is_in_time : List ℕ → ℕ → ℕ → Bool
is_in_time r a c = some (λ j. is_shown r c (a + j)) (suc c)
