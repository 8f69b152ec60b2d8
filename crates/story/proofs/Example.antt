-- Sequences that meet the theorems' hypotheses, computed from the definitions: a film's evening, with its lanes and a box; a lane
-- that is dropped, and one that is raised while it sends; events that leave an answer true; an id that is gone at its own close;
-- padding, which is owed to nobody; doors that are held; a card that has time to retune; and a skip-forward title.
use mathlib.Core.Path.{◌≡◌, refl, subst, ◌∙◌}
use mathlib.Core.Bool.{true, false, not}
use mathlib.Core.List.{List, [], ◌∷◌}
use Prim.Native.Nat.{ℕ, ◌+◌, ◌-◌, ◌≤◌, ◌<◌}
use native.Mathlib.Omega.{arith}
use borrow.Author.Tests.{not-true}
use Rattle.rules.specs.Refusals.{done, not_there, second_event, not_at_slot, no_lanes, too_soon, doors_unchanged, is_steady}
use Rattle.rules.specs.Search.{every, how_many}
use Rattle.rules.proofs.Search.{every_out}
use Rattle.story.specs.declared.Act.TheVariants.{Changes, Closes}
use Rattle.story.specs.declared.Event.{Event}
use Rattle.story.specs.Life.{Life, is_admission, is_active, owes, Air, nothing, cell, is_held}
use Rattle.story.specs.Story.{opens, skips, holds, lifts, event, settling, life_of, life_at, up_to, is_active_in, is_held_in, air_at}
use Rattle.story.specs.Story.{held_over, answer, accepted, Accepted, InTick, Begins, Dropped, DropsAt, release_of}
use Rattle.story.specs.Story.{Quiet, nothing_new, elsewhere, none_tunes, goes_by}
use Rattle.story.specs.Runs.{state_after, Reached}
use Rattle.story.specs.Formerly.{formerly_owed, formerly_owes, formerly_held, formerly_held_in, formerly_held_over}
use Rattle.story.specs.Formerly.{formerly_answer_to, formerly_answer}
use Rattle.story.proofs.Reached.{accepted_is, reached}
use Rattle.story.proofs.Retuned.{far_apart}
use Rattle.story.proofs.Demands.{held_as_owed, held_in_a_life}
use Rattle.story.proofs.Computed.{computed}

-- ---- an evening of one film: it opens, gains a lane, loses it and closes, and its id opens again with other numbers

-- what is accepted up to the drop at 8, newest first
abbrev opened : List Event
opened = event 0 0 (opens 12 2 4 3) ∷ []

abbrev taken : List Event
taken =
    event 0 16 (opens 24 2 3 2) ∷ event 0 12 Closes ∷ event 0 8 (Changes 3) ∷ event 0 4 (Changes 4) ∷ opened

-- and what is called: the change to 2 at 2 comes half a floor slot after the opening
abbrev calls : List Event
calls =
    event 0 16 (opens 24 2 3 2)
    ∷ event 0 12 Closes
    ∷ event 0 8 (Changes 3)
    ∷ event 0 4 (Changes 4)
    ∷ event 0 2 (Changes 2)
    ∷ opened

all_but_one : accepted 4 calls ≡ taken
unfolding computed
all_but_one = refl

taken_reached : Reached 4 taken (state_after 4 taken)
taken_reached = reached 4 taken (subst (Accepted 4) all_but_one (accepted_is 4 calls))

-- lanes held over all titles, at the opening, after the raise, while lane 3 sends, when it is released, at the close,
-- when one of the two lanes that send has gone, in the last sending tick, and when the id has opened again
held_then : ℕ → ℕ
held_then τ = held_over (up_to τ taken) τ

held_is :
    held_then 0 ∷ held_then 4 ∷ held_then 8 ∷ held_then 9 ∷ held_then 12 ∷ held_then 14 ∷ held_then 15 ∷ held_then 16 ∷ []
    ≡ 3 ∷ 4 ∷ 4 ∷ 3 ∷ 2 ∷ 1 ∷ 1 ∷ 2 ∷ []
unfolding held_then computed
held_is = refl

-- lane 3: off, raised, dropped at 8 and sending the one cell with film that it owes, released
lane_three : List Air
lane_three = air_at taken 0 3 3 ∷ air_at taken 0 3 4 ∷ air_at taken 0 3 8 ∷ air_at taken 0 3 9 ∷ []

lane_three_is : lane_three ≡ nothing ∷ cell 2 ∷ cell 2 ∷ nothing ∷ []
unfolding lane_three computed
lane_three_is = refl

-- a box may begin at 4, once the raise of that very moment is counted
box : Begins taken 0 4 4
unfolding computed
box = record { at_start = refl; admission = refl }

-- until the close at 12 the events at 4 and 8 leave what the opening alone says of the ticks before 4
quiet : Quiet 0 3 (event 0 8 (Changes 3) ∷ event 0 4 (Changes 4) ∷ [])
quiet =
    elsewhere {e = event 0 8 (Changes 3)} (λ e. omega arith)
    (elsewhere {e = event 0 4 (Changes 4)} (λ e. omega arith) nothing_new)

-- ---- lane 3 of that evening, dropped at 8 and not raised: it is held in one tick, as many as it owes cells

-- a lane that is active at none of n ticks, or moments, each tested
idle_ticks : (L : Life) (l T n : ℕ) → every (λ j. not (is_active L l (T + j))) n ≡ true → (j : ℕ) → j < n →
    is_active L l (T + j) ≡ false
idle_ticks L l T n all j b =
    not-true (is_active L l (T + j)) (every_out (λ j. not (is_active L l (T + j))) n j all b)

idle_from : (es : List Event) (i l τ n : ℕ) →
    every (λ j. not (is_active_in (life_at es i (τ + j)) l (τ + j))) n ≡ true → (υ : ℕ) → τ ≤ υ → υ < τ + n →
    is_active_in (life_at es i υ) l υ ≡ false
idle_from es i l τ n all υ lo hi =
    let e : τ + (υ - τ) ≡ υ = omega arith in
    rw e at
    (not-true (is_active_in (life_at es i (τ + (υ - τ))) l (τ + (υ - τ)))
    (every_out (λ j. not (is_active_in (life_at es i (τ + j)) l (τ + j))) n (υ - τ) all (omega arith)))

-- in the ticks of its life, up to the close at 12,
abbrev first_life : Life
first_life = life_at taken 0 12

dropped : Dropped first_life 3 7 4
unfolding computed
dropped = record { active_before = refl; not_raised = idle_ticks first_life 3 8 4 refl }

owes_one : owes first_life 3 8 ≡ 1
unfolding computed
owes_one = refl

held_once : how_many (λ j. is_held first_life 3 (8 + j)) 4 ≡ 1
held_once = (held_in_a_life first_life).exactly 3 7 4 dropped (omega (arith, owes_one)) ∙ owes_one

-- and as the events up to each moment say, up to 20: the close at 12 and the id's new opening at 16 among them
drops : DropsAt taken 0 3 7 8 20
unfolding computed
drops = record { at_start = refl; active_before = refl; not_raised = idle_from taken 0 3 8 12 refl }

owes_one_then : owes (life_at taken 0 8) 3 8 ≡ 1
unfolding computed
owes_one_then = refl

in_each : (j : ℕ) → j < 12 → InTick (life_at taken 0 8) (8 + j) (8 + j)
unfolding computed
in_each j b = record { from = omega arith; until = omega arith }

held_once_then : how_many (λ j. is_held_in (life_at taken 0 (8 + j)) 3 (8 + j)) 12 ≡ 1
unfolding computed
held_once_then =
    (held_as_owed 4 taken (state_after 4 taken) taken_reached).held_exactly 0 3 7 8 12 (omega arith) drops
    (omega (arith, owes_one_then)) (λ j. 8 + j) in_each
    ∙ owes_one_then

-- ---- opened with 5 lanes, dropped to 4 at 2 and raised again at 4, while lane 4 still owes a cell: held throughout

abbrev raised : List Event
raised = event 0 4 (Changes 5) ∷ event 0 2 (Changes 4) ∷ event 0 0 (opens 30 4 5 5) ∷ []

raised_accepted : accepted 5 raised ≡ raised
unfolding computed
raised_accepted = refl

raised_reached : Reached 5 raised (state_after 5 raised)
raised_reached = reached 5 raised (subst (Accepted 5) raised_accepted (accepted_is 5 raised))

abbrev raised_life : Life
raised_life = life_of raised 0

dropped_then_raised : Dropped raised_life 4 1 2
unfolding computed
dropped_then_raised = record { active_before = refl; not_raised = idle_ticks raised_life 4 2 2 refl }

again : is_active raised_life 4 4 ≡ true
unfolding computed
again = refl

owes_three : owes raised_life 4 2 ≡ 3
unfolding computed
owes_three = refl

held_on : (j : ℕ) → j ≤ 2 → is_held raised_life 4 (2 + j) ≡ true
held_on j = (held_in_a_life raised_life).throughout 4 1 2 j dropped_then_raised again (omega (arith, owes_three))

-- and so as the events up to each moment say
drops_then_raised : DropsAt raised 0 4 1 2 4
unfolding computed
drops_then_raised = record { at_start = refl; active_before = refl; not_raised = idle_from raised 0 4 2 2 refl }

raised_then : (is_active_in (life_at raised 0 4) 4 4 ≡ true) × (release_of (life_at raised 0 2) 4 2 ≡ 5)
unfolding computed
raised_then = (refl, refl)

held_on_then : (υ : ℕ) → 2 ≤ υ → υ ≤ 4 → is_held_in (life_at raised 0 υ) 4 υ ≡ true
held_on_then =
    (held_as_owed 5 raised (state_after 5 raised) raised_reached).held_throughout 0 4 1 2 4 (omega arith) drops_then_raised
    raised_then.0 (omega (arith, raised_then.1))

-- ---- a short film whose lanes carry padding when it closes at 2, in tick 1: nothing is owed, and the id is gone at once

abbrev gone : List Event
gone = event 0 2 Closes ∷ event 0 0 (opens 4 2 2 2) ∷ []

gone_accepted : accepted 4 gone ≡ gone
unfolding computed
gone_accepted = refl

-- the close leaves no lane sending; a second close at that moment gets 3, and an opening is accepted
none_sends : held_over gone 2 ≡ 0
unfolding computed
none_sends = refl

second_close : answer 4 gone (event 0 2 Closes) ≡ not_there
unfolding computed
second_close = refl

opens_at_once : answer 4 gone (event 0 2 (opens 12 2 4 3)) ≡ done
unfolding computed
opens_at_once = refl

-- ---- 01's case 5 in a pool of 4: lane 2 is released at 6, where it used to send padding, and another film opens then

abbrev released : List Event
released = event 0 4 (Changes 2) ∷ opened

abbrev other_film : Event
other_film = event 1 6 (opens 12 2 4 2)

passes_now : answer 4 released other_film ≡ done
unfolding computed
passes_now = refl

got_nine : formerly_answer 4 released other_film ≡ no_lanes
unfolding formerly_answer_to formerly_held_over formerly_held_in formerly_held formerly_owes formerly_owed computed
got_nine = refl

-- ---- doors: they are held at 7, and the count goes from 4 to 3 at 8, before the close at 12

abbrev with_four : List Event
with_four = event 0 0 (opens 12 2 4 4) ∷ []

abbrev held_at_seven : List Event
held_at_seven = event 0 7 holds ∷ with_four

abbrev behind_doors : List Event
behind_doors = event 0 12 Closes ∷ event 0 8 (Changes 3) ∷ held_at_seven

behind_doors_accepted : accepted 4 behind_doors ≡ behind_doors
unfolding computed
behind_doors_accepted = refl

-- a hold's own tick is no admission, nor is any later one: no box of count 3 ever began, and lane 1 still sends what the boxes of
-- count 4 await
nobody_begins : how_many (λ j. is_admission (life_of behind_doors 0) (7 + j)) 8 ≡ 0
unfolding computed
nobody_begins = refl

sent_to_count_four :
    air_at behind_doors 0 1 12 ∷ air_at behind_doors 0 1 13 ∷ air_at behind_doors 0 1 14 ∷ []
    ≡ cell 8 ∷ cell 9 ∷ nothing ∷ []
unfolding computed
sent_to_count_four = refl

-- a second hold gets 17, and so does a lift of what is not held; a lift's own tick is an admission again
held_twice : answer 4 held_at_seven (event 0 8 holds) ≡ doors_unchanged
unfolding computed
held_twice = refl

never_held : answer 4 with_four (event 0 8 lifts) ≡ doors_unchanged
unfolding computed
never_held = refl

lifted : is_admission (life_of (event 0 9 lifts ∷ held_at_seven) 0) 9 ≡ true
unfolding computed
lifted = refl

-- ---- a card retunes: the same film has a floor slot of 4, and its doors are held at 2, which counts for nothing

abbrev held_early : List Event
held_early = event 0 2 holds ∷ with_four

-- at 2 a change is a second event, at 3 it comes too soon, whatever slot that is, at 4 it may; at 5 the card has settled, and
-- the slot is asked
at_two : answer 4 held_early (event 0 2 (Changes 3)) ≡ second_event
unfolding computed
at_two = refl

at_three : answer 4 held_early (event 0 3 (Changes 3)) ≡ too_soon
unfolding computed
at_three = refl

at_four : answer 4 held_early (event 0 4 (Changes 3)) ≡ done
unfolding computed
at_four = refl

at_five : answer 4 held_early (event 0 5 (Changes 3)) ≡ not_at_slot
unfolding computed
at_five = refl

-- a close and a hold are not concerned: both pass half a floor slot after a change
abbrev changed_late : List Event
changed_late = event 0 6 (Changes 3) ∷ with_four

closes_soon : answer 4 changed_late (event 0 8 Closes) ≡ done
unfolding computed
closes_soon = refl

holds_soon : answer 4 changed_late (event 0 8 holds) ≡ done
unfolding computed
holds_soon = refl

changes_too_soon : answer 4 changed_late (event 0 8 (Changes 4)) ≡ too_soon
unfolding computed
changes_too_soon = refl

-- the opening and the change behind held doors lie a floor slot apart
settled_then : 0 + settling (life_of with_four 0) ≤ 8
settled_then =
    far_apart 4 (event 0 12 Closes ∷ []) (event 0 7 holds ∷ []) [] 0 0 8 3 (opens 12 2 4 4) refl
    (goes_by {e = event 0 7 holds} (λ e. refl) none_tunes)
    (subst (Accepted 4) behind_doors_accepted (accepted_is 4 behind_doors))

-- ---- a skip-forward title of four lanes and eight blocks, each of 8 ms, that closes at 24, in tick 3

abbrev skipping : List Event
skipping = event 0 0 (skips 64 4) ∷ []

abbrev forward : List Event
forward = event 0 24 Closes ∷ skipping

forward_accepted : accepted 4 forward ≡ forward
unfolding computed
forward_accepted = refl

-- lane 3 still sends blocks 7, 4 and 5 of those numbered from 0, lane 2 block 3, lanes 0 and 1 nothing
forward_sends :
    air_at forward 0 3 24 ∷ air_at forward 0 3 32 ∷ air_at forward 0 3 40 ∷ air_at forward 0 2 24 ∷ []
    ≡ cell 7 ∷ cell 4 ∷ cell 5 ∷ cell 3 ∷ []
unfolding computed
forward_sends = refl

forward_held : held_over forward 24 ∷ held_over forward 32 ∷ held_over forward 48 ∷ [] ≡ 2 ∷ 1 ∷ 0 ∷ []
unfolding computed
forward_held = refl

-- a change of it gets 19
stays_steady : answer 4 skipping (event 0 16 (Changes 3)) ≡ is_steady
unfolding computed
stays_steady = refl
