-- From a box's received bytes to demand 3, shown: every statement of specs/Boxes. Rests on `follows`, and cites the story's page for
-- the rest.
use mathlib.Core.List.{List}
use Prim.Native.Nat.{ℕ}
use Rattle.story.specs.declared.State.{State}
use Rattle.story.specs.declared.Event.{Event}
use Rattle.story.specs.Runs.{Reached}
use Rattle.story.specs.Demands.{NoBoxRunsDry}
use Rattle.story.proofs.Demands.{tells_the_story, no_box_runs_dry, the_pool, held_as_owed}
use Rattle.agent.specs.Series.{agent_after, events_heard}
use Rattle.agent.specs.Boxes.{DemandsHeard}
use Rattle.agent.proofs.Order.{follows, heard_by, state_by}

pub demands_heard : (pool : ℕ) (bss : List (List ℕ)) → DemandsHeard pool bss
demands_heard pool bss =
    let es : List Event = events_heard pool bss in
    let s : State = (agent_after pool bss).state in
    let run : Reached pool es s = (follows pool bss).run in
    let dry : NoBoxRunsDry pool es = no_box_runs_dry pool es s run in
    record {
      heard_reached = run;
      heard_story = tells_the_story pool es s run;
      heard_boxes = dry;
      heard_pool = the_pool pool es s run;
      heard_dropped = held_as_owed pool es s run;
      heard_then = heard_by pool bss;
      heard_state_then = state_by pool bss;
      heard_by_calls = λ i τ a c id r υ h time then. rw (state_by pool bss υ then) (dry.by_the_calls i τ a c id r υ h time);
    }
