-- The plan call of the small box (02, request 6): the plan of 01, with 1 for another floor or cap before all others; and the same
-- looked up in a lent table, whatever that holds. Below it, what the functions write on their way, from the last tick of a period
-- back to the start: each lane's cell of a tick gets the tick, so that the first showing stays.
use Rattle.std.specs.Prelude.{ℕ, zero, suc, ◌+◌, ◌-◌, ◌^◌, List, ◌∷◌, ◌≡◌, ltb, eqb, length, set}
use Rattle.rules.specs.Refusals.{pick, Rule, refuse, first_hit, outside_limits}
use Rattle.plans.specs.Padded.{plan_rules}
use Rattle.plans.specs.Row.{filled_row, plan_row}
use Rattle.rom_table.specs.Table.{rom_cap, rom_period, rom_entries, is_other, table_cell}
use Rattle.rom.specs.Showing.{seen_within}

abbrev pub rom_plan_rules : ℕ → ℕ → ℕ → ℕ → ℕ → List Rule
rom_plan_rules A K k a n = refuse outside_limits (is_other A K) ∷ plan_rules A K k a n

unfoldable pub rom_plan_answer : ℕ → ℕ → ℕ → ℕ → ℕ → ℕ
rom_plan_answer A K k a n = first_hit (rom_plan_rules A K k a n)

-- the row that the call leaves: of another floor or cap nothing is written
unfoldable pub rom_plan_row : ℕ → ℕ → ℕ → ℕ → List ℕ → List ℕ
rom_plan_row A K k a row = pick (is_other A K) row (plan_row A K k a row)

-- what the small box settles: the answer r, and the row that it leaves
pub record RomPlanned (A K k a : ℕ) (row : List ℕ) (r : ℕ) (after : List ℕ) : Type 0 where
  pub answer : r ≡ rom_plan_answer A K k a (length row)
  pub left : after ≡ rom_plan_row A K k a row

-- ---- by a lent table

-- how many places count of a row of n: none beside a table of another length, which so gets 10 at 10's place
unfoldable pub places_beside : List ℕ → ℕ → ℕ
places_beside T n = pick (eqb (length T) rom_entries) n 0

unfoldable pub table_plan_answer : List ℕ → ℕ → ℕ → ℕ → ℕ → ℕ → ℕ
table_plan_answer T A K k a n = rom_plan_answer A K k a (places_beside T n)

-- a cell's tick is its first showing on the table's lanes 0 to k - 1; a number there that is no cell has no place
unfoldable pub table_plan_row : List ℕ → ℕ → ℕ → ℕ → ℕ → List ℕ → List ℕ
table_plan_row T A K k a row = filled_row (table_plan_answer T A K k a (length row)) (seen_within (table_cell T) k a rom_period) (2 ^ rom_cap) row

-- what the call settles
pub record TablePlanned (T : List ℕ) (A K k a : ℕ) (row : List ℕ) (r : ℕ) (after : List ℕ) : Type 0 where
  pub answer : r ≡ table_plan_answer T A K k a (length row)
  pub left : after ≡ table_plan_row T A K k a row

-- ---- on the way

-- o goes into the place of cell c
unfoldable pub noted_once : List ℕ → ℕ → ℕ → List ℕ
noted_once row c o = pick (ltb c (2 ^ rom_cap)) (set row c o) row

-- the same for the table's numbers of lanes 0 to l - 1 at tick t
unfoldable pub noted_lanes : List ℕ → List ℕ → ℕ → ℕ → ℕ → List ℕ
noted_lanes T row t o zero = row
noted_lanes T row t o (suc l) = noted_once (noted_lanes T row t o l) (table_cell T l t) o

-- and of the last n ticks of a period from a on, the last first, with the ticks counted from a
unfoldable pub noted_ticks : List ℕ → List ℕ → ℕ → ℕ → ℕ → List ℕ
noted_ticks T row k a zero = row
noted_ticks T row k a (suc n) = noted_lanes T (noted_ticks T row k a n) (a + (rom_period - suc n)) (rom_period - suc n) k
