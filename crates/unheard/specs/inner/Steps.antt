-- How the code counts, notice by notice. The call's contract cites nothing of this; proofs/ shows what it comes to.
use Rattle.std.specs.Prelude.{ℕ, ◌+◌, ◌≤◌, ◌<◌, ◌^◌, eqb}
use Rattle.rules.specs.Refusals.{pick, done}
use Rattle.notice.specs.declared.Notice.{Notice}
use Rattle.notice.specs.declared.Reading.TheVariants as reading
use Rattle.agent.specs.declared.Agent.{Agent}
use Rattle.agent.specs.Turns.{notice_answer}
use Rattle.unheard.specs.declared.MissedTally.{MissedTally}

-- one notice more, with what it was answered
unfoldable pub counted : MissedTally → ℕ → MissedTally
counted t a =
    pick (eqb a done) (record { notices = t.notices + 1; missed = t.missed; first = t.first; said = t.said })
    (pick (eqb t.missed 0) (record { notices = t.notices + 1; missed = t.missed + 1; first = t.notices + 1; said = a })
    (record { notices = t.notices + 1; missed = t.missed + 1; first = t.first; said = t.said }))

-- as an agent answers it
abbrev pub heard_count : Agent → Notice → MissedTally → MissedTally
heard_count g n t = counted t (notice_answer g (reading.Whole n))

-- one more can be counted
pub record RoomToCount (t : MissedTally) : Type 0 where
  pub fits : t.notices + 1 < 2 ^ 64
  pub missed_low : t.missed ≤ t.notices

-- no more notices were told than the log has bytes before a place
pub record Small (place : ℕ) (t : MissedTally) : Type 0 where
  pub few : t.notices ≤ place
  pub missed_low : t.missed ≤ t.notices
