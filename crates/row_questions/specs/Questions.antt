-- What the planner and the small box are asked over a lent row: the calls' own answers of the state that the row stands for. A row of
-- another length gets 10, before all else; one that is not sound (`agent_rows` specs/Packed) gets 1 at 1's place in the call's order. For the
-- planner, which takes its state by value, it stands for a state outside its limits.
use Rattle.std.specs.Prelude.{ℕ, suc, ◌≡◌, true, false, List, eqb, length}
use Rattle.rules.specs.Limits.{pool_max}
use Rattle.rules.specs.Refusals.{pick, done, wrong_rows}
use Rattle.story.specs.declared.State.{State}
use Rattle.story.specs.Kept.{title_at, tick_at}
use Rattle.agent.specs.declared.Agent.{Agent}
use Rattle.agent.specs.Turns.{fresh_agent}
use Rattle.owed.specs.Shown.{shown_tick}
use Rattle.rom_table.specs.Table.{rom_entries, table_cell}
use Rattle.rom.specs.Lanes.{rom_lane_answer}
use Rattle.planner.specs.Outcome.{Answered}
use Rattle.agent_rows.specs.Layout.{row_length}
use Rattle.agent_rows.specs.Packed.{unpacked, row_sound}
use Rattle.row_calls.specs.Answers.{on_row, on_sound}

-- the pool of a row; one out of its limits where the row is not sound
unfoldable pub pool_in : List ℕ → ℕ
pool_in r = pick (row_sound r) (unpacked r).state.pool (suc pool_max)

-- the state that a row stands for
abbrev pub state_in : List ℕ → State
state_in r = record { pool = pool_in r; last = (unpacked r).state.last; titles = (unpacked r).state.titles }

-- the agent that a row stands for; one of no lanes where the row has another length or is not sound
unfoldable pub agent_in : List ℕ → Agent
agent_in r = pick (eqb (length r) row_length) (pick (row_sound r) (unpacked r) (fresh_agent 0)) (fresh_agent 0)

-- an answer beside a lent table of the right length
abbrev pub on_table : List ℕ → ℕ → ℕ
on_table T answer = pick (eqb (length T) rom_entries) answer wrong_rows

-- the small box's lane question by a lent table: a row or a table of another length gets 10, before all else
unfoldable pub row_rom_lane : List ℕ → List ℕ → ℕ → ℕ → ℕ → ℕ
row_rom_lane r T i l τ = on_row r (on_table T (on_sound r (rom_lane_answer (unpacked r).state i l τ)))

-- the tick whose cell goes out
abbrev pub tick_out : List ℕ → ℕ → ℕ → ℕ → ℕ
tick_out r i l τ = shown_tick (title_at (unpacked r).state i) l (tick_at (title_at (unpacked r).state i) τ)

-- and the table's number for it; 0 beside a refusal
unfoldable pub row_rom_shows : List ℕ → List ℕ → ℕ → ℕ → ℕ → ℕ
row_rom_shows r T i l τ = pick (eqb (row_rom_lane r T i l τ) done) (table_cell T l (tick_out r i l τ)) 0

-- the planner's list
pub record RowListed (row : List ℕ) (τ : ℕ) (rates is ts ks : List ℕ) (r n : ℕ) (is' ts' ks' : List ℕ) : Type 0 where
  pub wrong_length : eqb (length row) row_length ≡ false → (r ≡ wrong_rows) × ((n ≡ 0) × ((is' ≡ is) × ((ts' ≡ ts) × (ks' ≡ ks))))
  pub lists : eqb (length row) row_length ≡ true → Answered (state_in row) τ rates is ts ks r n is' ts' ks'
