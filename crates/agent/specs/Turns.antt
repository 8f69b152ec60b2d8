-- The agent's call (01, "Notices" and "Numbers that calls give back"): 11, 12, then the event's own refusals.
use Rattle.std.specs.Prelude.{ℕ, suc, ◌≡◌, eqb}
use Rattle.rules.specs.Refusals.{pick, malformed, out_of_turn}
use Rattle.notice.specs.declared.Notice.{Notice}
use Rattle.notice.specs.declared.Kind.{Kind}
use Rattle.notice.specs.declared.Kind.TheVariants.{Open, Change, Close, Hold, Lift, Skip}
use Rattle.notice.specs.declared.Reading.{Reading}
use Rattle.notice.specs.declared.Reading.TheVariants as reading
use Rattle.story.specs.Calls.{fresh_next}
use Rattle.story.specs.declared.Act.{Act}
use Rattle.story.specs.declared.Act.TheVariants.{Changes, Closes}
use Rattle.story.specs.declared.Event.{Event}
use Rattle.story.specs.Story.{event, opens, skips, holds, lifts}
use Rattle.story.specs.Next.{call_next}
use Rattle.story.specs.Runs.{answered}
use Rattle.agent.specs.declared.Agent.{Agent}

-- what a notice's kind does
abbrev pub act_of : Kind → Act
act_of (Open d a k n) = opens d a k n
act_of (Change n) = Changes n
act_of Close = Closes
act_of Hold = holds
act_of Lift = lifts
act_of (Skip d n) = skips d n

-- the event that a notice carries
abbrev pub event_of : Notice → Event
event_of n = event n.title n.time (act_of n.kind)

-- a fresh agent has accepted nothing; a refused one has a pool of 0 lanes
abbrev pub fresh_agent : ℕ → Agent
fresh_agent pool = record { sequence = 0; state = fresh_next pool }

-- what a notice in its turn is answered is what its event is
unfoldable pub notice_answer : Agent → Reading → ℕ
notice_answer g (reading.Whole n) = pick (eqb n.sequence (suc g.sequence)) (answered g.state (event_of n)) out_of_turn
notice_answer g reading.Malformed = malformed

-- the agent that an accepted notice leaves
abbrev pub notice_next : Agent → Reading → Agent
notice_next g (reading.Whole n) =
    record { sequence = n.sequence; state = call_next g.state n.title n.time (act_of n.kind) }
notice_next g reading.Malformed = g

-- the agent after a notice: as it came in where the notice is refused
abbrev pub noticed : Agent → Reading → Agent
noticed g r = pick (eqb (notice_answer g r) 0) (notice_next g r) g

-- an agent answers a reading with a refusal and the next with 12, and stays as it was
pub record Stops (g : Agent) (r q : Reading) (a : ℕ) : Type 0 where
  pub refused : notice_answer g r ≡ a
  pub then_twelve : notice_answer (noticed g r) q ≡ out_of_turn
  pub stays : noticed (noticed g r) q ≡ g
