-- The cell that a lane shows (docs/CONSOLE.md, "Commands": lane and romlane).
use Rattle.std.specs.Prelude.{ℕ, Bool, List, ◌++◌, leb, eqb}
use Rattle.rules.specs.Limits.{both, id_max}
use Rattle.rules.specs.Refusals.{pick, outside_limits}
use Rattle.story.specs.declared.State.{State}
use Rattle.story.specs.Kept.{title_at}
use Rattle.story.specs.Calls.{lane_answer, lane_shows}
use Rattle.rom.specs.Lanes.{is_foreign, rom_lane_answer, rom_lane_shows}
use Rattle.console_answers.specs.Outcomes.{value_text}
use Rattle.console_reasons.specs.Lanes.{lane_reason}
use Rattle.console_boxes.specs.Small.{small_text}

-- the cell that goes out; a refusal says why
unfoldable pub lane_text : State → ℕ → ℕ → ℕ → List ℕ
lane_text s i l τ = value_text (lane_answer s i l τ) (lane_shows s i l τ) 0 ++ lane_reason (lane_answer s i l τ) s i l τ

-- the id's title is none for the small box, which asks that first
abbrev pub is_foreign_at : State → ℕ → Bool
is_foreign_at s i = both (leb i id_max) (is_foreign (title_at s i))

unfoldable pub rom_lane_reason : ℕ → State → ℕ → ℕ → ℕ → List ℕ
rom_lane_reason a s i l τ = pick (both (eqb a outside_limits) (is_foreign_at s i)) small_text (lane_reason a s i l τ)

-- the lane's cell, of the small box
unfoldable pub rom_lane_text : State → ℕ → ℕ → ℕ → List ℕ
rom_lane_text s i l τ =
    value_text (rom_lane_answer s i l τ) (rom_lane_shows s i l τ) 0 ++ rom_lane_reason (rom_lane_answer s i l τ) s i l τ
