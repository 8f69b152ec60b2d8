-- What the calls on a lent row answer, and the row that each leaves: the agent's own answers, through `unpacked` and `packed` (`agent_rows`
-- specs/Packed). A row of another length gets 10, before all else; one that is not sound gets 1, at 1's place in the call's order. A
-- refusal leaves the row as it was, number for number.
use Rattle.std.specs.Prelude.{ℕ, suc, List, eqb, length}
use Rattle.rules.specs.Limits.{both}
use Rattle.rules.specs.Refusals.{pick, done, outside_limits, wrong_rows, malformed, out_of_turn}
use Rattle.notice.specs.declared.Reading.{Reading}
use Rattle.notice.specs.declared.Reading.TheVariants as reading
use Rattle.story.specs.declared.State.{State}
use Rattle.story.specs.declared.Event.{Event}
use Rattle.story.specs.Kept.{title_at, tick_at}
use Rattle.story.specs.Calls.{fresh_answer, lane_answer, lane_shows, status_answer}
use Rattle.story.specs.Runs.{answered, called}
use Rattle.owed.specs.Shown.{shown_tick}
use Rattle.scheduler.specs.Outcomes.{held_answer, held_shown}
use Rattle.agent.specs.Turns.{event_of, fresh_agent, noticed}
use Rattle.agent_rows.specs.Layout.{row_length}
use Rattle.agent_rows.specs.Packed.{packed, unpacked, row_sound, with_state}

-- an answer about a row of the right length
abbrev pub on_row : List ℕ → ℕ → ℕ
on_row r answer = pick (eqb (length r) row_length) answer wrong_rows

-- and about one that is sound besides
abbrev pub on_sound : List ℕ → ℕ → ℕ
on_sound r answer = pick (row_sound r) answer outside_limits

-- an event; it leaves the sequence as it was, which only notices move
unfoldable pub row_event : List ℕ → Event → ℕ
row_event r e = on_row r (on_sound r (answered (unpacked r).state e))

unfoldable pub row_after_event : List ℕ → Event → List ℕ
row_after_event r e = pick (eqb (row_event r e) done) (packed (with_state (unpacked r) (called (unpacked r).state e))) r

-- what a notice's bytes read as: 11 and 12 come before the event's own answer, and before 1 for a row that is not sound
unfoldable pub row_reading : List ℕ → Reading → ℕ
row_reading r (reading.Whole n) =
    pick (eqb n.sequence (suc (unpacked r).sequence)) (on_sound r (answered (unpacked r).state (event_of n))) out_of_turn
row_reading r reading.Malformed = malformed

unfoldable pub row_notice : List ℕ → Reading → ℕ
row_notice r q = on_row r (row_reading r q)

unfoldable pub row_after_notice : List ℕ → Reading → List ℕ
row_after_notice r q = pick (eqb (row_notice r q) done) (packed (noticed (unpacked r) q)) r

-- a fresh agent of a pool, whatever the row was
unfoldable pub row_fresh : List ℕ → ℕ → ℕ
row_fresh r pool = on_row r (fresh_answer pool)

unfoldable pub row_after_fresh : List ℕ → ℕ → List ℕ
row_after_fresh r pool = pick (eqb (row_fresh r pool) done) (packed (fresh_agent pool)) r

-- a lane question, and the cell that goes out; 0 beside a refusal
unfoldable pub row_lane : List ℕ → ℕ → ℕ → ℕ → ℕ
row_lane r i l τ = on_row r (on_sound r (lane_answer (unpacked r).state i l τ))

unfoldable pub row_shows : List ℕ → ℕ → ℕ → ℕ → ℕ
row_shows r i l τ = pick (eqb (row_lane r i l τ) done) (lane_shows (unpacked r).state i l τ) 0

-- the tick whose cell that is, of a state, and of a row; 0 beside a refusal
abbrev pub asked_tick : State → ℕ → ℕ → ℕ → ℕ
asked_tick s i l τ = pick (eqb (lane_answer s i l τ) done) (shown_tick (title_at s i) l (tick_at (title_at s i) τ)) 0

unfoldable pub row_tick : List ℕ → ℕ → ℕ → ℕ → ℕ
row_tick r i l τ = pick (eqb (row_lane r i l τ) done) (asked_tick (unpacked r).state i l τ) 0

-- lanes held at a time, and how many; 0 beside a refusal
unfoldable pub row_held : List ℕ → ℕ → ℕ
row_held r τ = on_row r (on_sound r (held_answer (unpacked r).state τ))

unfoldable pub row_lanes : List ℕ → ℕ → ℕ
row_lanes r τ = pick (eqb (row_held r τ) done) (held_shown (unpacked r).state τ) 0

-- status over a row of ids, with rows of m counts, h numbers of lanes held and d marks: rows of different lengths get 10 before all else
unfoldable pub row_status : List ℕ → ℕ → List ℕ → ℕ → ℕ → ℕ → ℕ
row_status r τ ids m h d =
    on_row r
    (pick (both (eqb m (length ids)) (both (eqb h (length ids)) (eqb d (length ids))))
    (on_sound r (status_answer (unpacked r).state τ ids m h d))
    wrong_rows)
