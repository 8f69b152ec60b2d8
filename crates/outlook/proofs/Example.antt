-- An evening that meets the hypotheses of the outlook's promise, computed from the definitions: two films in a pool of five lanes, of which
-- the first has just dropped a lane that still sends. The second's raise gets 9, has room once that lane is released, and is accepted at
-- the slot start after; the first's own raise gets 8 between two slot starts; an opening under an id that is open gets 4; and a close of
-- an id that was never opened is accepted at no time.
-- Rests on what the earliest time is, and on the laws of tries.
use mathlib.Core.Path.{◌≡◌, refl, sym}
use mathlib.Core.Bool.{true}
use mathlib.Core.List.{[], ◌∷◌}
use Prim.Native.Nat.{suc}
use native.Mathlib.Omega.{arith}
use Rattle.rules.specs.Limits.{event_time_max}
use Rattle.rules.specs.Refusals.{hits_of, done, not_there, id_taken, not_at_slot, no_lanes}
use Rattle.story.specs.declared.State.{State}
use Rattle.story.specs.declared.Event.{Event}
use Rattle.story.specs.declared.Act.TheVariants.{Changes, Closes}
use Rattle.story.specs.Kept.{title_at, numbers_ok, order_ok, title_ok, state_ok, tick_at, at_tick_start, settled_at, ruling, wants_from, wants}
use Rattle.story.specs.Kept.{kept_awaited, kept_owed, kept_within, kept_held, title_held, lanes_held, is_there}
use Rattle.story.specs.Next.{drop_lanes, changed_title}
use Rattle.story.specs.Story.{opens, event, takes_lanes}
use Rattle.story.specs.Calls.{call_answer}
use Rattle.story.specs.Runs.{answered, state_after}
use Rattle.story.proofs.Computed.{computed}
use Rattle.moments.proofs.Earliest.{found_after}
use Rattle.verdicts.specs.Before.{first_answer}
use Rattle.outlook.specs.Outlook.{is_accepted_at, first_accepted, when_answer, when_time, is_allowed, next_start, finds_room, room_from}
use Rattle.outlook.proofs.Tried.{never_skips, tried_none, tried_on, tried_over, when_on, when_past}

-- two films of 6 ms with floor 2 and cap 3, so a tick is 1 ms; the first drops its third lane at 2
abbrev evening : State
evening = state_after 5 (event 0 2 (Changes 2) ∷ event 1 0 (opens 6 2 3 2) ∷ event 0 0 (opens 6 2 3 3) ∷ [])

abbrev raise : Event
raise = event 1 2 (Changes 3)

abbrev off_start : Event
off_start = event 0 5 (Changes 3)

abbrev again : Event
again = event 0 3 (opens 6 2 3 2)

abbrev stranger : Event
stranger = event 5 3 Closes

-- what computing opens: the state and its answers
computed_state : Unit {0}
unfolding state_after call_answer state_ok title_ok numbers_ok order_ok tick_at ruling is_there kept_held title_held lanes_held computed
computed_state = tt

computed_answers : Unit {0}
unfolding at_tick_start settled_at changed_title drop_lanes kept_within kept_owed kept_awaited wants wants_from computed_state
computed_answers = tt

-- ---- behind a 9

pub nine : (answered evening raise ≡ no_lanes) × (takes_lanes (Changes 3) (title_at evening 1).count ≡ true)
unfolding computed_answers
nine = (refl, refl)

-- the lane has sent the one cell that it owes by 3
pub room_at_three : room_from evening raise ≡ 3
unfolding room_from first_answer finds_room hits_of computed_answers
room_at_three = sym (found_after (finds_room evening raise) 2 1 (omega arith) refl refl)

-- and the next slot start is 4
first_at_four : 4 ≡ first_accepted evening raise
unfolding first_accepted computed_answers
first_at_four = found_after (is_accepted_at evening raise) 2 2 (omega arith) refl refl

pub accepted_at_four : (when_answer evening raise ≡ done) × (when_time evening raise ≡ 4)
accepted_at_four =
    let w = when_on evening raise 4 first_at_four (omega arith) in
    (sym w.0, sym w.1)

-- ---- behind an 8

pub eight : answered evening off_start ≡ not_at_slot
unfolding computed_answers
eight = refl

pub next_is_six : next_start evening off_start ≡ 6
unfolding next_start is_allowed hits_of computed_answers
next_is_six = sym (found_after (is_allowed evening off_start) 5 1 (omega arith) refl refl)

-- ---- behind a 4, and a refusal that lasts

pub four : answered evening again ≡ id_taken
unfolding computed_answers
four = refl

pub never_comes : when_answer evening stranger ≡ not_there
unfolding computed_answers
never_comes =
    let skips = never_skips evening stranger 3 (omega arith) refl (λ z. omega (arith, z)) (λ z. omega (arith, z)) in
    let tried = tried_on evening stranger 3 (tried_none evening stranger) refl {r = suc event_time_max} {y = suc event_time_max} skips refl in
    sym (when_past evening stranger (suc event_time_max) (tried_over evening stranger (suc event_time_max) tried refl) (omega arith) {n = not_there} refl {q = not_there} refl).0
