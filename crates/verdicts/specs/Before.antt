-- What an event answers before the lanes of the next state are counted (01, "Numbers that calls give back").
use Rattle.std.specs.Prelude.{ℕ, List}
use Rattle.rules.specs.Refusals.{Rule, first_hit, before, no_lanes}
use Rattle.story.specs.declared.State.{State}
use Rattle.story.specs.declared.Event.{Event}
use Rattle.story.specs.Story.{order_of}
use Rattle.story.specs.Calls.{tests_in}

-- the rules of its order up to the want of lanes
abbrev pub event_rules : State → Event → List Rule
event_rules s e = before no_lanes (order_of e.act (tests_in s e.title e.time e.act))

unfoldable pub first_answer : State → Event → ℕ
first_answer s e = first_hit (event_rules s e)
