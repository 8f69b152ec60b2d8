-- A series of byte strings handed to a fresh agent of a pool, newest first, and the notices that count among them, told
-- from the series alone (01, "Notices": a refused event doesn't advance the sequence).
use Rattle.std.specs.Prelude.{ℕ, suc, ◌≡◌, true, false, List, [], ◌∷◌, ◌++◌, map, reverse, eqb, length}
use Rattle.rules.specs.Limits.{both}
use Rattle.rules.specs.Refusals.{pick}
use Rattle.notice.specs.declared.Notice.{Notice}
use Rattle.notice.specs.declared.Kind.{Kind}
use Rattle.notice.specs.declared.Kind.TheVariants.{Open, Change, Close, Hold, Lift, Skip}
use Rattle.notice.specs.declared.Reading.{Reading}
use Rattle.notice.specs.declared.Reading.TheVariants as reading
use Rattle.notice.specs.Encode.{bytes_of}
use Rattle.notice.specs.Decode.{read_of}
use Rattle.notice.specs.Log.{log_of}
use Rattle.scheme.specs.Scheme.{steady_kind}
use Rattle.story.specs.declared.Act.{Act}
use Rattle.story.specs.declared.Act.TheVariants.{Opens, Changes, Closes, Doors}
use Rattle.story.specs.declared.Event.{Event}
use Rattle.story.specs.Story.{up_to, answer}
use Rattle.story.specs.Runs.{lanes_of, Reached}
use Rattle.agent.specs.declared.Agent.{Agent}
use Rattle.agent.specs.Turns.{event_of, fresh_agent, noticed}

-- the agent after a series
unfoldable pub agent_after : ℕ → List (List ℕ) → Agent
agent_after pool [] = fresh_agent pool
agent_after pool (bs ∷ bss) = noticed (agent_after pool bss) (read_of bs)

-- the notices heard, after one more reading: it counts if it is the next in turn and its event is accepted after theirs
abbrev pub hearing : ℕ → List Notice → Reading → List Notice
hearing lanes ns (reading.Whole n) =
    pick (both (eqb n.sequence (suc (length ns))) (eqb (answer lanes (map event_of ns) (event_of n)) 0)) (n ∷ ns) ns
hearing lanes ns reading.Malformed = ns

-- the notices heard of a series, newest first
unfoldable pub heard : ℕ → List (List ℕ) → List Notice
heard lanes [] = []
heard lanes (bs ∷ bss) = hearing lanes (heard lanes bss) (read_of bs)

-- the notice that a head-end writes of an event that it accepted, with its sequence
abbrev pub kind_for : Act → Kind
kind_for (Opens f k) = pick (eqb f.kind steady_kind) (Skip f.length k) (Open f.length f.floor f.cap k)
kind_for (Changes k) = Change k
kind_for Closes = Close
kind_for (Doors true) = Hold
kind_for (Doors false) = Lift

abbrev pub notice_for : ℕ → Event → Notice
notice_for q e = record { sequence = q; title = e.title; time = e.time; kind = kind_for e.act }

-- the notices of its accepted events, newest first, numbered from 1 on,
unfoldable pub notices_for : List Event → List Notice
notices_for [] = []
notices_for (e ∷ es) = notice_for (suc (length es)) e ∷ notices_for es

-- the byte strings that it sends of them,
abbrev pub sent : List Event → List (List ℕ)
sent es = map bytes_of (notices_for es)

-- and the log that it keeps, oldest first
abbrev pub log_kept : List Event → List ℕ
log_kept es = log_of (reverse (notices_for es))

-- sequences 1, 2, 3, .. with none left out
pub data InTurn : List Notice → Type 0 where
  start : InTurn []
  next : {n : Notice} {ns : List Notice} → n.sequence ≡ suc (length ns) → InTurn ns → InTurn (n ∷ ns)

-- the events of the notices heard of a series, newest first
abbrev pub events_heard : ℕ → List (List ℕ) → List Event
events_heard pool bss = map event_of (heard (lanes_of pool) bss)

-- the earlier part of a series, after which just the events up to a moment had been heard, and the part that came later
pub record HeardBy (pool : ℕ) (bss : List (List ℕ)) (τ : ℕ) : Type 0 where
  pub later : List (List ℕ)
  pub earlier : List (List ℕ)
  pub parts : bss ≡ later ++ earlier
  pub events : events_heard pool earlier ≡ up_to τ (events_heard pool bss)

-- what an agent that heard ns is: its sequence is their number, their events are reached with its state, and each came in turn
pub record Hearing (pool : ℕ) (ns : List Notice) (g : Agent) : Type 0 where
  pub sequence : g.sequence ≡ length ns
  pub run : Reached pool (map event_of ns) g.state
  pub turn : InTurn ns

-- every notice of a series stands in a log, given by which notices it has
pub data Of (log : Notice → Type 0) : List (List ℕ) → Type 0 where
  no_bytes : Of log []
  more_bytes : {bs : List ℕ} {bss : List (List ℕ)} → ((n : Notice) → read_of bs ≡ reading.Whole n → log n) → Of log bss →
      Of log (bs ∷ bss)

-- no two different notices of a log share a sequence
abbrev pub OneEach : (Notice → Type 0) → Type 0
OneEach log = (m n : Notice) → log m → log n → m.sequence ≡ n.sequence → m ≡ n
