-- An agent that is told notices one after the other, and a log played into a fresh agent (01, "Notices").
use Rattle.std.specs.Prelude.{ℕ, ◌≡◌, List, [], ◌∷◌, map}
use Rattle.notice.specs.declared.Notice.{Notice}
use Rattle.notice.specs.declared.Reading.TheVariants as reading
use Rattle.notice.specs.Decode.{read_of}
use Rattle.notice.specs.Log.{notices_of}
use Rattle.agent.specs.declared.Agent.{Agent}
use Rattle.story.specs.Life.{Life}
use Rattle.story.specs.declared.Event.{Event}
use Rattle.story.specs.Story.{life_of}
use Rattle.story.specs.Runs.{lanes_of}
use Rattle.agent.specs.Turns.{event_of, fresh_agent, noticed}
use Rattle.agent.specs.Series.{hearing}

-- the agent after notices, newest first; it stays as it is at each that it refuses
unfoldable pub agent_told : Agent → List Notice → Agent
agent_told g [] = g
agent_told g (n ∷ ns) = noticed (agent_told g ns) (reading.Whole n)

-- a log played into a fresh agent of a pool
abbrev pub agent_played : ℕ → List ℕ → Agent
agent_played pool log = agent_told (fresh_agent pool) (notices_of log)

-- of notices that are told one after the other, newest first, those that count: the next in turn, with an accepted event
unfoldable pub heard_of : ℕ → List Notice → List Notice
heard_of lanes [] = []
heard_of lanes (n ∷ ns) = hearing lanes (heard_of lanes ns) (reading.Whole n)

-- the accepted events of a log, as a fresh agent of a pool takes them
abbrev pub events_played : ℕ → List ℕ → List Event
events_played pool log = map event_of (heard_of (lanes_of pool) (notices_of log))

-- a title's life since its latest opening in the log, whether it is open, closing or gone at the log's end
abbrev pub life_in : ℕ → List ℕ → ℕ → Life
life_in pool log title = life_of (events_played pool log) title

-- byte strings that read as these notices, one for one
pub data ReadAs : List (List ℕ) → List Notice → Type 0 where
  none_read : ReadAs [] []
  one_read : {bs : List ℕ} {n : Notice} {bss : List (List ℕ)} {ns : List Notice}
      → read_of bs ≡ reading.Whole n → ReadAs bss ns → ReadAs (bs ∷ bss) (n ∷ ns)
