-- The order of refusals of each event and question, once (01, "Numbers that calls give back": first match wins). What each refusal asks
-- is handed in by name: the story reads it off the sequence of events, the calls read it off the state.
use Rattle.std.specs.Prelude.{Bool, not, List, [], ◌∷◌}
use Rattle.rules.specs.Refusals.{Rule, refuse, outside_limits, too_early, not_there, id_taken, is_closing, floor_above_cap}
use Rattle.rules.specs.Refusals.{below_floor, above_cap, unchanged, second_event, not_at_slot, no_lanes, wrong_rows}
use Rattle.rules.specs.Refusals.{too_soon, doors_unchanged, is_steady}

-- what the refusals of an event ask
pub record Tests : Type 0 where
  -- 1: a number is outside its limits
  pub outside : Bool
  -- 2: the time is before the last accepted event
  pub early : Bool
  -- the id is open or not yet released: 4 where it is, 3 where it isn't
  pub there : Bool
  -- 5: the title is closing
  pub closing : Bool
  -- 19: the title is a skip-forward title
  pub steady : Bool
  -- 15: the floor is above the cap
  pub crossed : Bool
  -- 13: the count is below the floor
  pub below : Bool
  -- 14: the count is above the cap
  pub above : Bool
  -- 6: the count is unchanged
  pub same : Bool
  -- 17: the doors are held already, or not held
  pub same_doors : Bool
  -- 7: a second event of the title at one moment
  pub second : Bool
  -- 16: less than a floor slot after the title's last opening or change
  pub soon : Bool
  -- 8: the time is no permitted slot start
  pub off : Bool
  -- 9: with the event more lanes than the pool would be held
  pub full : Bool

-- of an opening; of a skip-forward title, whose floor, cap and count are one number, 15, 13 and 14 can't hit: 1 2 4 9
abbrev pub open_order : Tests → List Rule
open_order t =
    refuse outside_limits t.outside
    ∷ refuse too_early t.early
    ∷ refuse id_taken t.there
    ∷ refuse floor_above_cap t.crossed
    ∷ refuse below_floor t.below
    ∷ refuse above_cap t.above
    ∷ refuse no_lanes t.full
    ∷ []

abbrev pub change_order : Tests → List Rule
change_order t =
    refuse outside_limits t.outside
    ∷ refuse too_early t.early
    ∷ refuse not_there (not t.there)
    ∷ refuse is_closing t.closing
    ∷ refuse is_steady t.steady
    ∷ refuse below_floor t.below
    ∷ refuse above_cap t.above
    ∷ refuse unchanged t.same
    ∷ refuse second_event t.second
    ∷ refuse too_soon t.soon
    ∷ refuse not_at_slot t.off
    ∷ refuse no_lanes t.full
    ∷ []

abbrev pub close_order : Tests → List Rule
close_order t =
    refuse outside_limits t.outside
    ∷ refuse too_early t.early
    ∷ refuse not_there (not t.there)
    ∷ refuse is_closing t.closing
    ∷ refuse second_event t.second
    ∷ refuse not_at_slot t.off
    ∷ []

-- of a hold and of a lift
abbrev pub doors_order : Tests → List Rule
doors_order t =
    refuse outside_limits t.outside
    ∷ refuse too_early t.early
    ∷ refuse not_there (not t.there)
    ∷ refuse is_closing t.closing
    ∷ refuse is_steady t.steady
    ∷ refuse doors_unchanged t.same_doors
    ∷ refuse second_event t.second
    ∷ refuse not_at_slot t.off
    ∷ []

-- of a lane question: 3 where the lane is not held then
abbrev pub lane_order : (outside early away : Bool) → List Rule
lane_order outside early away = refuse outside_limits outside ∷ refuse too_early early ∷ refuse not_there away ∷ []

-- of status: 10 where its rows differ in length
abbrev pub status_order : (differ outside early : Bool) → List Rule
status_order differ outside early = refuse wrong_rows differ ∷ refuse outside_limits outside ∷ refuse too_early early ∷ []
