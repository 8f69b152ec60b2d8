-- The lane question of the small box (02, request 6): 01's, with 1 for a title of another floor or cap, and for a
-- skip-forward title (02, request 12), before all others; and the same looked up in a lent table, whatever that holds.
use Rattle.std.specs.Prelude.{ℕ, Bool, not, List, ◌∷◌, ◌≡◌, leb, eqb, length}
use Rattle.rules.specs.Limits.{both, either, id_max}
use Rattle.rules.specs.Refusals.{pick, Rule, refuse, first_hit, done, outside_limits, wrong_rows}
use Rattle.scheme.specs.Scheme.{steady_kind}
use Rattle.story.specs.declared.Title.{Title}
use Rattle.story.specs.declared.State.{State}
use Rattle.story.specs.Kept.{absent_mode, title_at, is_steady_title, tick_at}
use Rattle.story.specs.Calls.{lane_rules, lane_shows}
use Rattle.owed.specs.Shown.{shown_tick}
use Rattle.rom_table.specs.Table.{rom_floor, rom_cap, rom_entries, is_other, table_cell}

-- a slot's title is sent by another scheme, or has another floor or cap; a slot never opened has none
abbrev pub is_foreign : Title → Bool
is_foreign t = both (not (eqb t.mode absent_mode)) (either (is_steady_title t) (is_other t.film.floor t.film.cap))

abbrev pub rom_lane_rules : State → ℕ → ℕ → ℕ → List Rule
rom_lane_rules s i l τ =
    refuse outside_limits (both (leb i id_max) (is_foreign (title_at s i))) ∷ lane_rules s i l τ

unfoldable pub rom_lane_answer : State → ℕ → ℕ → ℕ → ℕ
rom_lane_answer s i l τ = first_hit (rom_lane_rules s i l τ)

-- the cell that goes out; 0 beside a refusal
unfoldable pub rom_lane_shows : State → ℕ → ℕ → ℕ → ℕ
rom_lane_shows s i l τ = pick (eqb (rom_lane_answer s i l τ) 0) (lane_shows s i l τ) 0

-- ---- by a lent table

-- a table of another length gets 10, before all else
unfoldable pub table_lane_answer : List ℕ → State → ℕ → ℕ → ℕ → ℕ
table_lane_answer T s i l τ = pick (eqb (length T) rom_entries) (rom_lane_answer s i l τ) wrong_rows

-- the table's number for the tick whose cell the lane shows; 0 beside a refusal
unfoldable pub table_lane_shows : List ℕ → State → ℕ → ℕ → ℕ → ℕ
table_lane_shows T s i l τ =
    pick (eqb (table_lane_answer T s i l τ) done) (table_cell T l (shown_tick (title_at s i) l (tick_at (title_at s i) τ))) 0

-- what the functions ask of a title before its cells are looked up
pub record Own (t : Title) : Type 0 where
  pub kind : t.film.kind ≡ steady_kind → ⊥
  pub floor : t.film.floor ≡ rom_floor
  pub cap : t.film.cap ≡ rom_cap
