-- 01, "Numbers worked through": the starred cases as one table, what the definitions give beside what 01 prints; cases 5
-- to 7 without the padding, as 02's request 5 has them, 6 and 8 with the number of its request 9, case 9 with that of its
-- request 4 and, since by its request 10 a count of 11 is within the limits, with 13 beside it as the one outside them;
-- case 11 by the sum of its request 2, with the example given there. All but 10 and 11 are of a film with floor 2, cap 4 and
-- D 12, opened at 0; number 0 is what 01 says of that film beforehand. That a list is forgotten is shown, also under 6, by
-- a film whose list is longer than its floor slot, of floor 4, cap 5 and D 30.
use Rattle.std.specs.Prelude.{ℕ, zero, suc, Bool, true, false, not, List, [], ◌∷◌, ◌++◌, eqb}
use Rattle.rules.specs.Limits.{both}
use Rattle.rules.specs.Refusals.{pick, done, outside_limits, unchanged, above_cap, not_at_slot, no_lanes, too_soon}
use Rattle.grid.specs.Ticks.{cells, tick_of}
use Rattle.grid.specs.Lanes.{is_in_g, lane_cell}
use Rattle.plans.specs.Padded.{plan_at, never}
use Rattle.story.specs.Life.{Air, nothing, cell}
use Rattle.scheme.specs.Scheme.{film_in}
use Rattle.story.specs.declared.Act.{Act}
use Rattle.story.specs.declared.Act.TheVariants.{Changes}
use Rattle.story.specs.declared.Event.{Event}
use Rattle.story.specs.Story.{opens, answer, accepted, air_at}
use Rattle.sharing.specs.Verdict.{verdict_of, row_after}

-- a case of 01 by its number: what the definitions give, and what is printed
pub record Case : Type 0 where
  pub number : ℕ
  pub given : List ℕ
  pub printed : List ℕ

abbrev pub case : ℕ → List ℕ → List ℕ → Case
case n g p = record { number = n; given = g; printed = p }

-- f at the numbers below n, in order
unfoldable pub up_from : (ℕ → ℕ) → ℕ → List ℕ
up_from f zero = []
up_from f (suc n) = up_from f n ++ (f n ∷ [])

-- f at n, n + 1, .., so many
unfoldable pub along : (ℕ → ℕ) → ℕ → ℕ → List ℕ
along f n zero = []
along f n (suc m) = f n ∷ along f (suc n) m

-- the numbers below n that pass a test, in order
unfoldable pub those : (ℕ → Bool) → ℕ → List ℕ
those p zero = []
those p (suc n) = those p n ++ pick (p n) (n ∷ []) []

-- the film's floor, cap and length, and its cells
abbrev pub floor : ℕ
floor = 2

abbrev pub cap : ℕ
cap = 4

abbrev pub film_length : ℕ
film_length = 12

abbrev pub film_cells : ℕ
film_cells = cells cap

-- its cells that are in G(k, t)
abbrev pub in_g : ℕ → ℕ → List ℕ
in_g k t = those (is_in_g floor cap k t) film_cells

-- what a lane shows, as a number: the cell, or what a box writes for nothing
abbrev pub shown : Air → ℕ
shown nothing = never
shown (cell c) = c

abbrev pub event_at : ℕ → Act → Event
event_at τ a = record { time = τ; title = 0; act = a }

-- the film of the cases, opened with a count
abbrev pub opens_film : ℕ → Event
opens_film k = event_at 0 (opens film_length floor cap k)

-- a film whose list outlives a floor slot of 2 ticks, opened with 5 lanes and dropped to 4
abbrev pub drops_long : List Event
drops_long = event_at 2 (Changes 4) ∷ event_at 0 (opens 30 4 5 5) ∷ []

-- any pool that has the lanes of the cases
abbrev pub pool : ℕ
pool = 8

-- what an event is answered after calls, newest first
abbrev pub answer_behind : List Event → Event → ℕ
answer_behind cs e = answer pool (accepted pool cs) e

-- lane l from tick t on, so many ticks, after the accepted ones of the calls
abbrev pub lane : List Event → ℕ → ℕ → ℕ → List ℕ
lane cs l t n = along (λ τ. shown (air_at (accepted pool cs) 0 l τ)) t n

-- two titles of length D with floor 2 and cap 4: the answer, then the row, which has a place more than there are titles
abbrev pub share : ℕ → ℕ → List ℕ → List ℕ
share D lanes rates =
    let lengths : List ℕ = D ∷ D ∷ [] in
    let floors : List ℕ = floor ∷ floor ∷ [] in
    let caps : List ℕ = cap ∷ cap ∷ [] in
    let row : List ℕ = 0 ∷ 0 ∷ 7 ∷ [] in
    verdict_of lanes rates lengths floors caps 3 ∷ row_after lanes rates lengths floors caps row

unfoldable pub printed_cases : List Case
printed_cases =
    case 0 (tick_of film_length floor cap ∷ []) (1 ∷ [])
    ∷ case 0 (those (λ c. not (film_in film_length (tick_of film_length floor cap) c)) film_cells) (12 ∷ 13 ∷ 14 ∷ 15 ∷ [])
    ∷ case 1 (in_g 2 0) (0 ∷ 4 ∷ [])
    ∷ case 1 (in_g 3 0) (0 ∷ 4 ∷ 12 ∷ [])
    ∷ case 1 (in_g 4 0) (0 ∷ 2 ∷ 4 ∷ 12 ∷ [])
    ∷ case 2 (up_from (lane_cell floor cap 3) 8) (2 ∷ 0 ∷ 14 ∷ 0 ∷ 2 ∷ 0 ∷ 6 ∷ 0 ∷ [])
    ∷ case 3 (up_from (lane_cell floor cap 2) 8) (12 ∷ 13 ∷ 0 ∷ 1 ∷ 4 ∷ 5 ∷ 0 ∷ 1 ∷ [])
    ∷ case 4 (up_from (plan_at floor cap 4 0) film_cells)
    (0 ∷ 1 ∷ 0 ∷ 3 ∷ 0 ∷ 1 ∷ 2 ∷ 3 ∷ 4 ∷ 5 ∷ 6 ∷ 7 ∷ 0 ∷ 1 ∷ 2 ∷ never ∷ [])
    ∷ case 5 (lane (event_at 4 (Changes 2) ∷ opens_film 3 ∷ []) 2 4 3) (4 ∷ 5 ∷ never ∷ [])
    ∷ case 6 (lane (event_at 4 (Changes 3) ∷ opens_film 4 ∷ []) 3 4 3) (2 ∷ 6 ∷ never ∷ [])
    ∷ case 6 (answer_behind (event_at 4 (Changes 3) ∷ opens_film 4 ∷ []) (event_at 6 (Changes 4)) ∷ []) (too_soon ∷ [])
    ∷ case 6 (lane drops_long 4 2 4) (2 ∷ 6 ∷ 14 ∷ never ∷ [])
    ∷ case 6 (lane (event_at 4 (Changes 5) ∷ drops_long) 4 4 5) (6 ∷ 0 ∷ 2 ∷ 0 ∷ 14 ∷ [])
    ∷ case 7 (lane (event_at 8 (Changes 3) ∷ opens_film 4 ∷ []) 3 8 2) (2 ∷ never ∷ [])
    ∷ case 8
    (answer_behind (opens_film 3 ∷ []) (event_at 2 (Changes 2))
    ∷ answer_behind (opens_film 3 ∷ []) (event_at 4 (Changes 2))
    ∷ answer_behind (opens_film 3 ∷ []) (event_at 6 (Changes 2))
    ∷ [])
    (too_soon ∷ done ∷ not_at_slot ∷ [])
    ∷ case 9
    (answer_behind (opens_film 4 ∷ []) (event_at 4 (Changes 4))
    ∷ answer_behind (opens_film 4 ∷ []) (event_at 4 (Changes 5))
    ∷ answer_behind (opens_film 4 ∷ []) (event_at 4 (Changes 11))
    ∷ answer_behind (opens_film 4 ∷ []) (event_at 4 (Changes 13))
    ∷ [])
    (unchanged ∷ above_cap ∷ above_cap ∷ outside_limits ∷ [])
    ∷ case 10 (tick_of 1 floor cap ∷ tick_of 13 floor cap ∷ []) (1 ∷ 2 ∷ [])
    ∷ case 11 (share 210 4 (1 ∷ 2 ∷ [])) (done ∷ 2 ∷ 2 ∷ 7 ∷ [])
    ∷ case 11 (share 210 5 (1 ∷ 2 ∷ [])) (done ∷ 2 ∷ 3 ∷ 7 ∷ [])
    ∷ case 11 (share 210 6 (1 ∷ 2 ∷ [])) (done ∷ 3 ∷ 3 ∷ 7 ∷ [])
    ∷ case 11 (share 210 7 (1 ∷ 2 ∷ [])) (done ∷ 3 ∷ 4 ∷ 7 ∷ [])
    ∷ case 11 (share 210 3 (1 ∷ 2 ∷ [])) (no_lanes ∷ 0 ∷ 0 ∷ 7 ∷ [])
    ∷ case 11 (share 210 5 (1 ∷ 1 ∷ [])) (done ∷ 3 ∷ 2 ∷ 7 ∷ [])
    ∷ case 11 (share film_length 6 (4 ∷ 9 ∷ [])) (done ∷ 2 ∷ 4 ∷ 7 ∷ [])
    ∷ []

-- two rows are the same
unfoldable pub same_row : List ℕ → List ℕ → Bool
same_row [] [] = true
same_row [] (y ∷ ys) = false
same_row (x ∷ xs) [] = false
same_row (x ∷ xs) (y ∷ ys) = both (eqb x y) (same_row xs ys)

-- every case gives what is printed
unfoldable pub all_agree : List Case → Bool
all_agree [] = true
all_agree (c ∷ cs) = both (same_row c.given c.printed) (all_agree cs)
