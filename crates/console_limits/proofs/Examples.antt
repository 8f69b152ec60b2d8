-- Words behind 1, computed from the definitions: of each command whose numbers are limited, one line with a number just outside. They hold
-- the rows of specs/Quantities against the commands' own numbers.
use mathlib.Core.Path.{◌≡◌, refl}
use mathlib.Core.List.{[], ◌∷◌}
use Rattle.rules.specs.Search.{first}
use Rattle.text.specs.Texts.{text}
use Rattle.text.specs.Digits.{decimal, digits}
use Rattle.console_commands.specs.Commands
use Rattle.console_limits.specs.Quantities.{bounds_of, bounds_table, quantity_name, quantity_at, column_of, repeated, row_of, quantity_table, is_out}
use Rattle.console_limits.specs.Outside.{first_out, bounds_text, out_text}

fresh_65 : out_text Commands.do_fresh (65 ∷ []) ≡ text ", POOL is 1 to 64"
unfolding out_text first_out first bounds_text quantity_name decimal digits text is_out quantity_at column_of row_of quantity_table bounds_of bounds_table
fresh_65 = refl

open_16 : out_text Commands.do_open (16 ∷ 768000 ∷ 5376000 ∷ 3 ∷ 6 ∷ 4 ∷ []) ≡ text ", ID is 0 to 15"
unfolding out_text first_out first bounds_text quantity_name decimal digits text is_out quantity_at column_of row_of quantity_table bounds_of bounds_table
open_16 = refl

-- the first from the left
open_floor : out_text Commands.do_open (0 ∷ 768000 ∷ 5376000 ∷ 6 ∷ 13 ∷ 4 ∷ []) ≡ text ", FLOOR is 2 to 5"
unfolding out_text first_out first bounds_text quantity_name decimal digits text is_out quantity_at column_of row_of quantity_table bounds_of bounds_table
open_floor = refl

change_time : out_text Commands.do_change (0 ∷ 1099511627777 ∷ 4 ∷ []) ≡ text ", TIME is 0 to 1099511627776"
unfolding out_text first_out first bounds_text quantity_name decimal digits text is_out quantity_at column_of row_of quantity_table bounds_of bounds_table
change_time = refl

skip_11 : out_text Commands.do_skip (1 ∷ 0 ∷ 3840000 ∷ 11 ∷ []) ≡ text ", COUNT is 2 to 10"
unfolding out_text first_out first bounds_text quantity_name decimal digits text is_out quantity_at column_of row_of quantity_table bounds_of bounds_table
skip_11 = refl

lane_12 : out_text Commands.do_lane (0 ∷ 12 ∷ 0 ∷ []) ≡ text ", LANE is 0 to 11"
unfolding out_text first_out first bounds_text quantity_name decimal digits text is_out quantity_at column_of row_of quantity_table bounds_of bounds_table
lane_12 = refl

-- what repeats
status_third : out_text Commands.do_status (0 ∷ 3 ∷ 4 ∷ 16 ∷ []) ≡ text ", ID is 0 to 15"
unfolding out_text first_out first bounds_text quantity_name decimal digits text is_out quantity_at column_of repeated row_of quantity_table bounds_of bounds_table
status_third = refl

share_second : out_text Commands.do_share (8 ∷ 1 ∷ 210 ∷ 2 ∷ 4 ∷ 1001 ∷ 210 ∷ 2 ∷ 4 ∷ []) ≡ text ", RATE is 1 to 1000"
unfolding out_text first_out first bounds_text quantity_name decimal digits text is_out quantity_at column_of repeated row_of quantity_table bounds_of bounds_table
share_second = refl

planner_rate : out_text Commands.do_planner (0 ∷ 16 ∷ 1 ∷ 0 ∷ []) ≡ text ", RATE is 1 to 1000"
unfolding out_text first_out first bounds_text quantity_name decimal digits text is_out quantity_at column_of repeated row_of quantity_table bounds_of bounds_table
planner_rate = refl

skipplan_arrival : out_text Commands.do_skip_plan (4 ∷ 2199023255553 ∷ []) ≡ text ", ARRIVAL is 0 to 2199023255552"
unfolding out_text first_out first bounds_text quantity_name decimal digits text is_out quantity_at column_of row_of quantity_table bounds_of bounds_table
skipplan_arrival = refl

when_hold_lem : out_text Commands.when_hold (16 ∷ 0 ∷ []) ≡ text ", ID is 0 to 15"
unfolding out_text first_out first bounds_text quantity_name decimal digits text is_out quantity_at column_of row_of quantity_table bounds_of bounds_table
when_hold_lem = refl

balance_second : out_text Commands.do_balance (0 ∷ 1 ∷ 1 ∷ 16 ∷ 1 ∷ []) ≡ text ", ID is 0 to 15"
unfolding out_text first_out first bounds_text quantity_name decimal digits text is_out quantity_at column_of repeated row_of quantity_table bounds_of bounds_table
balance_second = refl

lanes_33 : out_text Commands.do_lanes (0 ∷ 0 ∷ 33 ∷ []) ≡ text ", TICKS is 1 to 32"
unfolding out_text first_out first bounds_text quantity_name decimal digits text is_out quantity_at column_of row_of quantity_table bounds_of bounds_table
lanes_33 = refl

-- no number is out of its limits
close_state : out_text Commands.do_close (0 ∷ 0 ∷ []) ≡ text ", the state is out of its limits"
unfolding out_text first_out first bounds_text quantity_name decimal digits text is_out quantity_at column_of row_of quantity_table bounds_of bounds_table
close_state = refl
