-- The one floor and cap of the small box, and the table of its grid: ten lanes by 512 ticks (02, request 6).
use Rattle.std.specs.Prelude.{ℕ, suc, ◌-◌, ◌*◌, ◌/◌, ◌%◌, ◌^◌, ◌+◌, ◌<◌, ◌≡◌, Bool, true, not, List, [], ◌∷◌, eqb, length, get_or}
use Rattle.rules.specs.Limits.{both}
use Rattle.rules.specs.Refusals.{pick, done, wrong_rows}
use Rattle.grid.specs.Lanes.{lane_cell}
use Rattle.plans.specs.Row.{filled_row}

abbrev pub rom_floor : ℕ
rom_floor = 3

abbrev pub rom_cap : ℕ
rom_cap = 10

-- floor and cap are not the box's
abbrev pub is_other : ℕ → ℕ → Bool
is_other A K = not (both (eqb A rom_floor) (eqb K rom_cap))

-- the ticks after which every lane begins anew
abbrev pub rom_period : ℕ
rom_period = 2 ^ (rom_cap - 1)

abbrev pub rom_entries : ℕ
rom_entries = rom_cap * rom_period

-- what stands at a place of the table: the ticks of lane 0, then those of lane 1, and so on
unfoldable pub rom_entry : ℕ → ℕ
rom_entry i = lane_cell rom_floor rom_cap (i / rom_period) (i % rom_period)

-- a row is the table
pub record IsTable (T : List ℕ) : Type 0 where
  pub long : length T ≡ rom_entries
  pub each : (i : ℕ) → i < rom_entries → get_or T i 0 ≡ rom_entry i

-- a row to be filled has the table's length, no less and no more
unfoldable pub fill_answer : List ℕ → ℕ
fill_answer row = pick (eqb (length row) rom_entries) done wrong_rows

-- what filling settles: the answer r, and the row that it leaves
pub record Filled (row : List ℕ) (r : ℕ) (after : List ℕ) : Type 0 where
  pub answer : r ≡ fill_answer row
  pub left : after ≡ filled_row (fill_answer row) rom_entry rom_entries row

-- the number that a lent row has for a lane and a tick
abbrev pub table_cell : List ℕ → ℕ → ℕ → ℕ
table_cell T l t = get_or T (l * rom_period + t % rom_period) 0

-- a test passes at every entry of a list and its place, counted from i
unfoldable pub passes : (ℕ → ℕ → Bool) → ℕ → List ℕ → Bool
passes f i [] = true
passes f i (x ∷ xs) = both (f i x) (passes f (suc i) xs)
