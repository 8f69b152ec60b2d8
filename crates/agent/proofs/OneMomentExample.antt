-- The story's pairs of events at one moment whose order matters, as numbered notices handed to an agent of a pool of 4: the opening
-- before the drop that it needs gets 9, and the drop behind it 12; of a raise and an opening with room for one the second gets 9.
-- Rests on the story's computed pairs and on what an agent answers to a refused order.
use mathlib.Core.Path.{◌≡◌, sym, ap, subst}
use mathlib.Core.List.{List, ◌∷◌}
use Prim.Native.Nat.{suc, ◌^◌, ◌<◌}
use native.Mathlib.Omega.{arith}
use lib.ListN.{length}
use Rattle.rules.specs.Refusals.{no_lanes}
use Rattle.notice.specs.declared.Notice.{Notice}
use Rattle.notice.specs.declared.Reading.TheVariants as reading
use Rattle.notice.specs.Encode.{bytes_of}
use Rattle.notice.specs.Decode.{read_of}
use Rattle.story.specs.declared.Event.{Event}
use Rattle.story.specs.Story.{answer, accepted, Accepted, BothAccepted, WantsLanes, NineAfter}
use Rattle.story.proofs.Reached.{accepted_is}
use Rattle.story.proofs.OneMomentExample.{quiet_evening, raise, joins, full_evening, drop, needs}
use Rattle.story.proofs.OneMomentExample.{full_accepted, drop_first, needs_first, quiet_in_four, either_alone, either_nine_here}
use Rattle.agent.specs.declared.Agent.{Agent}
use Rattle.agent.specs.Turns.{notice_answer, Stops}
use Rattle.agent.specs.Series.{agent_after, events_heard, notice_for, sent}
use Rattle.agent.proofs.HeadEnd.{all_heard, as_sent}
use Rattle.agent.proofs.OneMoment.{refused_order, second_refused}

-- an agent that is handed the notices of an evening that the pool accepts
module _ (es : List Event) (all : accepted 4 es ≡ es) (few : length es < 2 ^ 32) where
  all_of_them : events_heard 4 (sent es) ≡ es
  all_of_them = rw all at (all_heard 4 es (rw all few))

  as_many : (agent_after 4 (sent es)).sequence ≡ length es
  as_many = ap (λ (g : Agent). g.sequence) (as_sent 4 es (subst (Accepted 4) all (accepted_is 4 es)) few)

-- the opening first: 9, and 12 for the drop, with the agent as it was
pub opening_first : Stops (agent_after 4 (sent full_evening)) (read_of (bytes_of (notice_for 3 needs))) (read_of (bytes_of (notice_for 4 drop))) no_lanes
opening_first =
    let hears : events_heard 4 (sent full_evening) ≡ full_evening = all_of_them full_evening full_accepted (omega arith) in
    refused_order 4 (sent full_evening) 3 (sym (ap suc (as_many full_evening full_accepted (omega arith)))) (omega arith) drop needs
    (subst (λ es. BothAccepted 4 es drop needs) (sym hears) drop_first)
    (subst (λ es. WantsLanes 4 es drop needs) (sym hears) needs_first)

-- the raise first, with no room for the opening then: 0, 9, and 12 for what is numbered on
pub raise_then_opening :
    (notice_answer (agent_after 4 (sent quiet_evening)) (read_of (bytes_of (notice_for 2 raise))) ≡ 0)
    × ((n : Notice) → n.sequence ≡ 4 →
    Stops (agent_after 4 (bytes_of (notice_for 2 raise) ∷ sent quiet_evening)) (read_of (bytes_of (notice_for 3 joins))) (reading.Whole n) no_lanes)
raise_then_opening =
    let hears : events_heard 4 (sent quiet_evening) ≡ quiet_evening = all_of_them quiet_evening quiet_in_four (omega arith) in
    second_refused 4 (sent quiet_evening) 2 (sym (ap suc (as_many quiet_evening quiet_in_four (omega arith)))) (omega arith) raise joins
    (subst (λ es. answer 4 es joins ≡ 0) (sym hears) either_alone.1)
    (subst (λ es. NineAfter 4 es raise joins) (sym hears) either_nine_here.0)
