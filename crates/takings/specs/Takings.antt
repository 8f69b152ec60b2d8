-- When a box takes each cell, and what it keeps. Numbers stand twelve to a tick from the box's start on, lane by lane; cell c plays in
-- tick c.
use Rattle.std.specs.Prelude.{ℕ, zero, suc, ◌/◌, ◌%◌, Bool, leb, ltb, eqb}
use Rattle.rules.specs.Limits.{both, lane_places}
use Rattle.rules.specs.Refusals.{pick}
use Rattle.rules.specs.Search.{first, how_many}
use Rattle.scheme.specs.Scheme.{film_in}
use Rattle.takings.specs.declared.Peak.{Peak}

-- the place among the first m numbers at which cell c is taken: the first that shows it, which is the lowest lane of the first tick; m where
-- none does, and for padding, which is never taken
unfoldable pub taking_place : ℕ → ℕ → (ℕ → ℕ) → ℕ → ℕ → ℕ
taking_place D tick f m c = pick (film_in D tick c) (first (λ j. eqb (f j) c) m) m

-- the tick and the lane of a place
abbrev pub place_tick : ℕ → ℕ
place_tick place = place / lane_places

abbrev pub place_lane : ℕ → ℕ
place_lane place = place % lane_places

-- in tick t cell c is kept: it is taken by then, and plays later
unfoldable pub is_kept : (ℕ → ℕ) → ℕ → ℕ → Bool
is_kept place t c = both (leb (place_tick (place c)) t) (ltb t c)

-- how many of n cells are
unfoldable pub kept_at : (ℕ → ℕ) → ℕ → ℕ → ℕ
kept_at place n t = how_many (is_kept place t) n

-- the highest of the first n values, and the first number that has it
unfoldable pub peak_to : (ℕ → ℕ) → ℕ → Peak
peak_to f zero = record { many = 0; tick = 0 }
peak_to f (suc t) = pick (ltb (peak_to f t).many (f t)) (record { many = f t; tick = t }) (peak_to f t)
