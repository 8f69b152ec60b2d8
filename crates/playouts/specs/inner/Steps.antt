-- How the code goes through a log, notice by notice, and fills in what the lanes of a title carry in a row of numbers, whose first is
-- that of lane 0 at tick `from` of one opening. The call's contract cites nothing of this; proofs/ shows what it comes to.
use Rattle.std.specs.Prelude.{ℕ, zero, suc, ◌+◌, ◌-◌, ◌*◌, ◌/◌, ◌%◌, ◌≤◌, ◌<◌, min, ◌≡◌, not, List, [], ◌∷◌, ltb, eqb, length, get_or, set}
use Rattle.rules.specs.Limits.{both, id_max, asked_max, lane_places}
use Rattle.rules.specs.Refusals.{pick, refuse, first_hit, done, outside_limits, malformed, not_there}
use Rattle.notice.specs.declared.Notice.{Notice}
use Rattle.notice.specs.Log.{is_whole_log, notices_of, stop_of}
use Rattle.plans.specs.Row.{written}
use Rattle.story.specs.declared.Title.{Title}
use Rattle.story.specs.Kept.{open_mode, title_at, tick_at, kept_held, shows}
use Rattle.story.specs.Life.{Air, nothing, cell}
use Rattle.measures.specs.Readable.{Sending}
use Rattle.agent.specs.declared.Agent.{Agent}
use Rattle.agent.specs.Turns.{fresh_agent}
use Rattle.agent.specs.Played.{agent_played, life_in}
use Rattle.logs.specs.Reading.{kept_told, heard_own, by_mode}
use Rattle.judging.specs.Record.{nothing_seen, ticks_max}
use Rattle.playouts.specs.declared.follow.Standing.{Standing}
use Rattle.playouts.specs.Playout.{was_opened, is_askable, last_tick_of, playout_number}
use Rattle.playouts.specs.Lines.{number_lines, refused_line}

-- the number of what is on air
abbrev pub air_number : Air → ℕ
air_number nothing = nothing_seen
air_number (cell c) = c

-- the number of lane l at tick u while a title stays as it stands, and that of a place of the row
unfoldable pub standing_number : Title → ℕ → ℕ → ℕ
standing_number t l u = pick (both (ltb l t.film.cap) (kept_held t l u)) (shows t l u) nothing_seen

abbrev pub standing_number_at : Title → ℕ → ℕ → ℕ
standing_number_at t from j = standing_number t (j % lane_places) (from + j / lane_places)

-- the place of lane 0 at a tick: the row's start for an earlier one, and no row's end for a late one
unfoldable pub place_from : ℕ → ℕ → ℕ
place_from from u = min (u - from) ticks_max * lane_places

-- a row with n values from place a on
unfoldable pub laid_from : (ℕ → ℕ) → ℕ → List ℕ → ℕ → List ℕ
laid_from f a row zero = row
laid_from f a row (suc n) = set (laid_from f a row n) (a + n) (f (a + n))

-- the ticks from a title's latest event up to tick v filled in, as far as the row goes
unfoldable pub filled_to : Title → ℕ → ℕ → List ℕ → List ℕ
filled_to t from v row =
    laid_from (standing_number_at t from) (place_from from (tick_at t t.last)) row
    (min (place_from from v) (length row) - place_from from (tick_at t t.last))

-- an accepted event of an open title settles its ticks up to the event; those of another opening than the one asked for are left
abbrev pub event_numbers : ℕ → ℕ → Title → ℕ → List ℕ → List ℕ
event_numbers opening from =
    by_mode (λ t τ row. pick (eqb t.opened opening) (filled_to t from (tick_at t τ) row) row) (λ τ row. row)

-- the row after a notice, for title i
abbrev pub heard_numbers : ℕ → ℕ → ℕ → Agent → Notice → List ℕ → List ℕ
heard_numbers i opening from = heard_own (event_numbers opening from) i

-- the row after notices, newest first
abbrev pub told_numbers : ℕ → ℕ → ℕ → ℕ → List ℕ → List Notice → List ℕ
told_numbers pool i opening from row ns = kept_told (heard_numbers i opening from) (fresh_agent pool) row ns

-- a row that is no longer than a record may be, from a tick on that may be given
pub record RowToFill (from : ℕ) (row : List ℕ) : Type 0 where
  pub soon : from ≤ asked_max
  pub short : length row ≤ ticks_max * lane_places

-- what holds of an agent that was told notices
pub record ReadyToFill (g : Agent) (i : ℕ) : Type 0 where
  pub id : i ≤ id_max
  pub sending : (title_at g.state i).mode ≡ open_mode → Sending (title_at g.state i)

-- a title that was opened has the numbers by which its lanes are known
abbrev pub Opened : Title → Type 0
Opened t = 0 < t.film.cap → Sending t

-- a log played to its end: where its reading stopped, and the title as it stands then
pub record StandsAt (pool : ℕ) (log : List ℕ) (i : ℕ) (r : Standing) : Type 0 where
  pub place_is : r.place ≡ stop_of log
  pub title_is : r.title ≡ title_at (agent_played pool log).state i
  pub opened : Opened r.title

-- and the row
pub record FillsOn (pool : ℕ) (log : List ℕ) (i opening from : ℕ) (row : List ℕ) (r : Standing) (after : List ℕ) : Type 0 where
  pub stands : StandsAt pool log i r
  pub numbers_are : after ≡ told_numbers pool i opening from row (notices_of log)

-- what the code answers of a title as it stands, where the reading of a log of some size stopped at a place, and a last tick
unfoldable pub title_answer : ℕ → ℕ → Title → ℕ → ℕ
title_answer place size t tick =
    pick (ltb place size) malformed
    (pick (eqb t.film.cap 0) not_there (pick (ltb (tick_at t asked_max) tick) outside_limits done))

-- what the log answers
unfoldable pub window_answer : ℕ → List ℕ → ℕ → ℕ → ℕ
window_answer pool log title tick =
    first_hit
    (refuse malformed (not (is_whole_log log))
    ∷ refuse not_there (not (was_opened (life_in pool log title)))
    ∷ refuse outside_limits (not (is_askable (life_in pool log title) tick))
    ∷ [])

-- a row of whole ticks within a window
pub record WholeTicks (ticks : ℕ) (row : List ℕ) : Type 0 where
  pub some : 1 ≤ ticks
  pub few : ticks ≤ ticks_max
  pub long : length row ≡ ticks * lane_places

-- what is answered of a window, and the row where that is done
pub record Carries (pool : ℕ) (log : List ℕ) (title from ticks : ℕ) (row : List ℕ) (answer : ℕ) (after : List ℕ) : Type 0 where
  pub answer_is : answer ≡ window_answer pool log title (last_tick_of from ticks)
  pub numbers_are : answer ≡ done → after ≡ written (playout_number pool log title from) row (length row)

-- what is printed of an answer and a row of numbers
unfoldable pub printed_text : ℕ → List ℕ → List ℕ
printed_text answer row = pick (eqb answer done) (number_lines (λ j. get_or row j 0) (length row)) (refused_line answer)
