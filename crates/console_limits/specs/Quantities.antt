-- The numbers of a line: which quantity stands at each place behind a command, with its name as in the usage and its limits
-- (docs/CONSOLE.md, "Commands"; 01, "What the product holds").
use Rattle.std.specs.Prelude.{ℕ, ◌+◌, ◌-◌, ◌%◌, Bool, not, List, [], ◌∷◌, get_or, eqb, ltb}
use Rattle.rules.specs.Limits.{within, pool_min, pool_max, id_max, event_time_max, length_min, length_max, floor_min, floor_max}
use Rattle.rules.specs.Limits.{count_min, count_max, steady_max, lane_max, asked_max, rate_min, rate_max}
use Rattle.rules.specs.Refusals.{pick}
use Rattle.text.specs.Texts.{text}
use Rattle.text.specs.Numbers.{top}
use Rattle.console_commands.specs.Commands.{title_numbers, do_status, do_share, do_planner, do_balance, rated_numbers}
use Rattle.console_limits.specs.declared.quantities.Bounds.{Bounds}
use Rattle.console_limits.specs.declared.quantities.Row.{Row}

-- the quantities by number; any number will do where none stands
abbrev pub of_any : ℕ
of_any = 0

abbrev pub of_pool : ℕ
of_pool = 1

abbrev pub of_id : ℕ
of_id = 2

-- of an event
abbrev pub of_time : ℕ
of_time = 3

abbrev pub of_length : ℕ
of_length = 4

abbrev pub of_floor : ℕ
of_floor = 5

abbrev pub of_cap : ℕ
of_cap = 6

abbrev pub of_count : ℕ
of_count = 7

-- of a skip-forward title
abbrev pub of_steady : ℕ
of_steady = 8

abbrev pub of_lane : ℕ
of_lane = 9

-- the time of a question
abbrev pub of_asked : ℕ
of_asked = 10

abbrev pub of_arrival : ℕ
of_arrival = 11

abbrev pub of_rate : ℕ
of_rate = 12

abbrev pub of_ticks : ℕ
of_ticks = 13

-- how many there are
abbrev pub quantity_count : ℕ
quantity_count = 14

-- the ticks over which `lanes` shows a title
abbrev pub ticks_min : ℕ
ticks_min = 1

abbrev pub ticks_most : ℕ
ticks_most = 32

-- from a least number to a largest, both allowed
abbrev pub bounds : ℕ → ℕ → Bounds
bounds low high = record { low = low; high = high }

-- the limits of each quantity, by its number
unfoldable pub bounds_table : List Bounds
bounds_table =
    bounds 0 top
    ∷ bounds pool_min pool_max
    ∷ bounds 0 id_max
    ∷ bounds 0 event_time_max
    ∷ bounds length_min length_max
    ∷ bounds floor_min floor_max
    ∷ bounds count_min count_max
    ∷ bounds count_min count_max
    ∷ bounds count_min steady_max
    ∷ bounds 0 lane_max
    ∷ bounds 0 asked_max
    ∷ bounds 0 asked_max
    ∷ bounds rate_min rate_max
    ∷ bounds ticks_min ticks_most
    ∷ []

unfoldable pub bounds_of : ℕ → Bounds
bounds_of q = get_or bounds_table q (bounds 0 top)

-- and its name
abbrev pub quantity_names : List (List ℕ)
quantity_names =
    text "" ∷
    text "POOL" ∷
    text "ID" ∷
    text "TIME" ∷
    text "LENGTH" ∷
    text "FLOOR" ∷
    text "CAP" ∷
    text "COUNT" ∷
    text "COUNT" ∷
    text "LANE" ∷
    text "TIME" ∷
    text "ARRIVAL" ∷
    text "RATE" ∷
    text "TICKS" ∷ []

unfoldable pub quantity_name : ℕ → List ℕ
quantity_name q = get_or quantity_names q []

-- the quantities behind a command, in their order; what repeats stands once
abbrev pub quantity_row : ℕ → ℕ → ℕ → ℕ → ℕ → ℕ → Row
quantity_row a b c d e f = record { quantities = a ∷ b ∷ c ∷ d ∷ e ∷ f ∷ [] }

abbrev pub row_width : ℕ
row_width = 6

abbrev pub no_quantities : Row
no_quantities = quantity_row of_any of_any of_any of_any of_any of_any

-- of an event without a count: a close, a hold and a lift
abbrev pub plain_row : Row
plain_row = quantity_row of_id of_time of_any of_any of_any of_any

abbrev pub change_row : Row
change_row = quantity_row of_id of_time of_count of_any of_any of_any

abbrev pub lane_row : Row
lane_row = quantity_row of_id of_lane of_asked of_any of_any of_any

abbrev pub box_row : Row
box_row = quantity_row of_floor of_cap of_count of_arrival of_any of_any

-- a row for each command, by its number
unfoldable pub quantity_table : List Row
quantity_table =
    -- none, fresh, open
    no_quantities
    ∷ quantity_row of_pool of_any of_any of_any of_any of_any
    ∷ quantity_row of_id of_time of_length of_floor of_cap of_count
    -- change, close, hold, lift, skip
    ∷ change_row
    ∷ plain_row
    ∷ plain_row
    ∷ plain_row
    ∷ quantity_row of_id of_time of_length of_steady of_any of_any
    -- lane, status, plan, share
    ∷ lane_row
    ∷ quantity_row of_asked of_id of_any of_any of_any of_any
    ∷ box_row
    ∷ quantity_row of_pool of_rate of_length of_floor of_cap of_any
    -- read, notice, romlane, romplan
    ∷ no_quantities
    ∷ no_quantities
    ∷ lane_row
    ∷ box_row
    -- planner, whose room may be any, skipplan
    ∷ quantity_row of_time of_any of_rate of_any of_any of_any
    ∷ quantity_row of_steady of_arrival of_any of_any of_any of_any
    -- write, help, the kinds of a write: their fields' sizes are the line's own limits
    ∷ no_quantities
    ∷ no_quantities
    ∷ no_quantities
    ∷ no_quantities
    ∷ no_quantities
    ∷ no_quantities
    ∷ no_quantities
    ∷ no_quantities
    -- when, balance, titles, lanes, quit, draw
    ∷ change_row
    ∷ quantity_row of_time of_id of_rate of_any of_any of_any
    ∷ quantity_row of_asked of_any of_any of_any of_any of_any
    ∷ quantity_row of_id of_asked of_ticks of_any of_any of_any
    ∷ no_quantities
    ∷ no_quantities
    -- when of a close, of a hold, of a lift
    ∷ plain_row
    ∷ plain_row
    ∷ plain_row
    ∷ []

unfoldable pub row_of : ℕ → Row
row_of c = get_or quantity_table c no_quantities

-- the column of a place from which on n quantities repeat, from column a on
unfoldable pub repeated : ℕ → ℕ → ℕ → ℕ
repeated a n p = pick (ltb p a) p (a + (p - a) % n)

-- the column of a place: the ids of a status repeat, the titles of a share, the rates of a planner, the pairs of a balance
unfoldable pub column_of : ℕ → ℕ → ℕ
column_of c p =
    pick (eqb c do_status) (repeated 1 1 p)
    (pick (eqb c do_share) (repeated 1 title_numbers p)
    (pick (eqb c do_planner) (repeated 2 1 p)
    (pick (eqb c do_balance) (repeated 1 rated_numbers p)
    p)))

-- the quantity at a place of a line, from 0
unfoldable pub quantity_at : ℕ → ℕ → ℕ
quantity_at c p = pick (ltb (column_of c p) row_width) (get_or (row_of c).quantities (column_of c p) 0) of_any

-- a number is out of a quantity's limits
unfoldable pub is_out : ℕ → ℕ → Bool
is_out q x = not (within (bounds_of q).low (bounds_of q).high x)
