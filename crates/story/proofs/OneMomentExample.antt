-- Pairs of events at one moment, computed from the definitions (02, 14). A raise and an opening with room for both: the order is all
-- one. The same two with room for either: whoever comes second gets 9. A drop and an opening that needs its lane: the opening gets 9
-- if it comes first, and the drop is accepted after it.
use mathlib.Core.Path.{◌≡◌, refl, sym}
use mathlib.Core.Logic.{◌⊎◌}
use mathlib.Core.List.{List, [], ◌∷◌, ◌++◌}
use native.Mathlib.Omega.{arith}
use Rattle.rules.specs.Refusals.{no_lanes}
use Rattle.story.specs.declared.Act.TheVariants.{Changes}
use Rattle.story.specs.declared.Event.{Event}
use Rattle.story.specs.Story.{opens, holds, event, held_over, answer, accepted}
use Rattle.story.specs.Story.{OneMoment, BothAccepted, WantsLanes, NineAfter}
use Rattle.story.specs.declared.State.{State}
use Rattle.story.specs.Runs.{state_after, Reached}
use Rattle.story.proofs.Demands.{orders_that_matter, order_is_all_one}
use Rattle.story.proofs.Computed.{computed}

-- a film of 2 lanes in a pool of 5; at 8 it gains a lane, and another film opens with 2
abbrev pub quiet_evening : List Event
quiet_evening = event 0 0 (opens 12 2 4 2) ∷ []

abbrev pub raise : Event
raise = event 0 8 (Changes 3)

abbrev pub joins : Event
joins = event 1 8 (opens 12 2 4 2)

quiet_accepted : accepted 5 quiet_evening ≡ quiet_evening
unfolding computed
quiet_accepted = refl

raise_and_joins : OneMoment raise joins
raise_and_joins = record { same_time = refl; other_title = λ e. omega arith }

raise_first : BothAccepted 5 quiet_evening raise joins
unfolding computed
raise_first = record { first = refl; second = refl }

joins_first : BothAccepted 5 quiet_evening joins raise
unfolding computed
joins_first = record { first = refl; second = refl }

-- all five lanes are held, and a third film gets 9, whoever came first
all_held_either_way : (held_over (joins ∷ raise ∷ quiet_evening) 8 ≡ 5) × (held_over (raise ∷ joins ∷ quiet_evening) 8 ≡ 5)
unfolding computed
all_held_either_way = (refl, refl)

third_refused : answer 5 (joins ∷ raise ∷ quiet_evening) (event 2 9 (opens 12 2 4 2)) ≡ no_lanes
unfolding computed
third_refused = refl

as_well : answer 5 (raise ∷ joins ∷ quiet_evening) (event 2 9 (opens 12 2 4 2)) ≡ no_lanes
unfolding computed
as_well = refl

-- in a pool of 4 either of the two fits, and not both: a film of 2 lanes, at 8 a third, or two more
pub quiet_in_four : accepted 4 quiet_evening ≡ quiet_evening
unfolding computed
quiet_in_four = refl

pub either_alone : (answer 4 quiet_evening raise ≡ 0) × (answer 4 quiet_evening joins ≡ 0)
unfolding computed
either_alone = (refl, refl)

second_nine : answer 4 (raise ∷ quiet_evening) joins ≡ no_lanes
unfolding computed
second_nine = refl

-- a film of 3 lanes in a pool of 4, whose doors were held at 2: at 16 its only box is done, and lane 2, dropped then, owes
-- nothing; another film opens with 2 lanes
abbrev pub full_evening : List Event
full_evening = event 0 2 holds ∷ event 0 0 (opens 12 2 4 3) ∷ []

abbrev pub drop : Event
drop = event 0 16 (Changes 2)

abbrev pub needs : Event
needs = event 1 16 (opens 12 2 4 2)

pub full_accepted : accepted 4 full_evening ≡ full_evening
unfolding computed
full_accepted = refl

drop_and_needs : OneMoment drop needs
drop_and_needs = record { same_time = refl; other_title = λ e. omega arith }

pub drop_first : BothAccepted 4 full_evening drop needs
unfolding computed
drop_first = record { first = refl; second = refl }

-- the other way round the opening, which takes lanes, gets 9, and the drop, which takes none, is accepted after it
pub needs_first : WantsLanes 4 full_evening drop needs
unfolding computed
needs_first = record { nine = refl; other = refl; takes = refl; takes_none = refl }

-- both runs are reached, so the page of the demands speaks of them: after the first pair all is one, whatever calls follow,
quiet_run : Reached 5 quiet_evening (state_after 5 quiet_evening)
quiet_run = record { calls = quiet_evening; events = sym quiet_accepted; state = refl }

all_one_here : (cs : List Event) →
    state_after 5 (cs ++ joins ∷ raise ∷ quiet_evening) ≡ state_after 5 (cs ++ raise ∷ joins ∷ quiet_evening)
all_one_here =
    let s : State = state_after 5 quiet_evening in
    let both = (orders_that_matter 5 quiet_evening s quiet_run).both_answered in
    (order_is_all_one 5 quiet_evening s quiet_run).all_one_later raise joins raise_and_joins (both raise joins raise_first)
    (both joins raise joins_first)

-- and of the second the opening is refused in the other order
full_run : Reached 4 full_evening (state_after 4 full_evening)
full_run = record { calls = full_evening; events = sym full_accepted; state = refl }

other_order_here : BothAccepted 4 full_evening needs drop ⊎ WantsLanes 4 full_evening drop needs
other_order_here =
    (orders_that_matter 4 full_evening (state_after 4 full_evening) full_run).orders drop needs drop_and_needs drop_first

-- and of the pair for which there is room for one, in either order the second gets 9
four_run : Reached 4 quiet_evening (state_after 4 quiet_evening)
four_run = record { calls = quiet_evening; events = sym quiet_in_four; state = refl }

pub either_nine_here : NineAfter 4 quiet_evening raise joins × NineAfter 4 quiet_evening joins raise
either_nine_here =
    (orders_that_matter 4 quiet_evening (state_after 4 quiet_evening) four_run).room_for_one raise joins raise_and_joins
    either_alone.0 either_alone.1 (λ both. absurd (omega (arith, both.second, second_nine)))
