-- The limits of each number (01, "What the product holds"). A later request moves a limit here and nowhere else.
use Rattle.std.specs.Prelude.{ℕ, ◌+◌, ◌-◌, ◌^◌, Bool, true, false, leb}

abbrev pub pool_min : ℕ
pool_min = 1

abbrev pub pool_max : ℕ
pool_max = 64

abbrev pub id_max : ℕ
id_max = 15

abbrev pub floor_min : ℕ
floor_min = 2

abbrev pub floor_max : ℕ
floor_max = 5

-- for the cap K and the count k alike; the largest by 02, request 10
abbrev pub count_min : ℕ
count_min = 2

abbrev pub count_max : ℕ
count_max = 12

-- the largest count of a skip-forward title (02, request 12)
abbrev pub steady_max : ℕ
steady_max = 10

-- D, in ms
abbrev pub length_min : ℕ
length_min = 1

abbrev pub length_max : ℕ
length_max = 14_400_000

abbrev pub rate_min : ℕ
rate_min = 1

abbrev pub rate_max : ℕ
rate_max = 1_000

-- in ms
abbrev pub event_time_max : ℕ
event_time_max = 2 ^ 40

-- an asked time in ms, and an arrival tick
abbrev pub asked_max : ℕ
asked_max = 2 ^ 41

-- a lane for each of the largest count, from 0 on
abbrev pub lane_max : ℕ
lane_max = count_max - 1

-- a row with a place for each count from 0 to the largest, and one with a place for each lane
abbrev pub count_places : ℕ
count_places = count_max + 1

abbrev pub lane_places : ℕ
lane_places = lane_max + 1

-- the cells of a film with the largest cap, each with a place in a box's plan
abbrev pub plan_places : ℕ
plan_places = 2 ^ count_max

-- 01, "Sharing": at most this many titles, as many as there are ids
abbrev pub titles_max : ℕ
titles_max = 16

-- both tests hold
abbrev pub both : Bool → Bool → Bool
both true b = b
both false b = false

-- at least one of the tests holds
abbrev pub either : Bool → Bool → Bool
either true b = true
either false b = b

-- x lies from lo to hi, both ends allowed
abbrev pub within : ℕ → ℕ → ℕ → Bool
within lo hi x = both (leb lo x) (leb x hi)
