-- Which refusal has which number, and the number that an answer comes to (01, "Numbers that calls give back").
use Rattle.std.specs.Prelude.{ℕ, Result, Ok, Err}
use Rattle.rules.specs.declared.answers.Refusal.{Refusal}
use Rattle.rules.specs.declared.answers.Refusal.TheVariants as refusal
use Rattle.rules.specs.Refusals.{done, outside_limits, too_early, not_there, id_taken, is_closing, unchanged, second_event, not_at_slot}
use Rattle.rules.specs.Refusals.{no_lanes, wrong_rows, malformed, out_of_turn, below_floor, above_cap, floor_above_cap, too_soon}
use Rattle.rules.specs.Refusals.{doors_unchanged, past_clock, is_steady}

abbrev pub refusal_number : Refusal → ℕ
refusal_number refusal.OutsideLimits = outside_limits
refusal_number refusal.TooEarly = too_early
refusal_number refusal.NotThere = not_there
refusal_number refusal.IdTaken = id_taken
refusal_number refusal.IsClosing = is_closing
refusal_number refusal.Unchanged = unchanged
refusal_number refusal.SecondEvent = second_event
refusal_number refusal.NotAtSlot = not_at_slot
refusal_number refusal.NoLanes = no_lanes
refusal_number refusal.WrongRows = wrong_rows
refusal_number refusal.Malformed = malformed
refusal_number refusal.OutOfTurn = out_of_turn
refusal_number refusal.BelowFloor = below_floor
refusal_number refusal.AboveCap = above_cap
refusal_number refusal.FloorAboveCap = floor_above_cap
refusal_number refusal.TooSoon = too_soon
refusal_number refusal.DoorsUnchanged = doors_unchanged
refusal_number refusal.PastClock = past_clock
refusal_number refusal.IsSteady = is_steady

-- the number of an answer: that of its refusal, or done
abbrev pub told : {A : Type 0} → Result A Refusal → ℕ
told (Ok value) = done
told (Err refused) = refusal_number refused
