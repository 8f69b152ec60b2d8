-- Lines with their meaning, computed: command, fault, place, and the numbers.
use Prim.Native.Nat.{ℕ}
use Prim.Native.String.{String}
use mathlib.Core.Path.{◌≡◌, refl}
use mathlib.Core.List.{List, [], ◌∷◌}
use lib.ListN.{take}
use Rattle.text.specs.Bytes.{is_sort, run, run_end}
use Rattle.text.specs.Numbers.{amount, too_large}
use Rattle.text.specs.Texts.{text, same}
use Rattle.clocks.specs.Clocks.{has_colon, is_part, is_thousandths, is_tail, is_clock, pair_at, tail_ms, clock_ms}
use Rattle.console_commands.specs.Letters.{lower_of, lowered}
use Rattle.console_commands.specs.Commands.{
  command_table,
  command_of,
  name_of,
  seek,
  verb_of,
  least_of,
  most_of,
  enough,
  takes_hex,
  takes_kind,
  takes_act,
  is_timed,
  asks_plan,
  limit_of,
  crowded,
  oversized,
}
use Rattle.console_lines.specs.declared.lines.Line.{Line}
use Rattle.console_lines.specs.Lines.{
  blank,
  with_fault,
  line_ended,
  go_on,
  with_amount,
  with_digits,
  word_at,
  with_clock,
  with_number,
  with_act,
  with_kind,
  with_hex,
  with_word,
  line_ends_at,
  step,
  with_verb,
  begun,
  read_on,
  meaning,
}

unfoldable pub told : Line → List ℕ
told l = l.command ∷ l.fault ∷ l.place ∷ take l.count l.numbers

unfoldable pub each : List String → List (List ℕ)
unfolding told is_sort run run_end amount too_large text same lower_of lowered has_colon is_part is_thousandths is_tail is_clock pair_at tail_ms clock_ms command_table command_of name_of seek verb_of least_of most_of enough takes_hex takes_kind takes_act is_timed asks_plan
    limit_of crowded oversized blank with_fault line_ended go_on with_amount with_digits with_clock with_number with_act with_kind with_hex word_at with_word line_ends_at step with_verb begun
    read_on meaning
each [] = []
each (s ∷ rest) = told (meaning (text s)) ∷ each rest

abbrev pub lines : List String
lines =
    "lane 3 0 12" ∷
    "  close\t007 18446744073709551616 \r" ∷
    "# a remark" ∷
    "open 1 2" ∷
    "status 5x" ∷
    "plan 2 4 4 0 4097" ∷
    "romlane 3 9 12" ∷
    "romplan 3 10 4 0 4097" ∷
    "planner 4 16" ∷
    "planner 4 16 1 2000" ∷
    "planner 4 17 1" ∷
    "planner 0 0 1 2 3 4 5 6 7 8 9 10 11 12 13 14 15 16 17 18" ∷
    "share 8 1 2 3" ∷
    "write 7 close 1 18446744073709551615" ∷
    "write 7 close 1 18446744073709551616" ∷
    "hold 1 4" ∷
    "write 7 lift 1 4" ∷
    "skip 1 4 1200 4" ∷
    "write 7 skip 1 4 1200 4" ∷
    "write 7 skip 1 4 1200 256" ∷
    "skipplan 4 3" ∷
    "skipplan 4 3 4097" ∷
    "write 7 lane" ∷
    "read 0aF0" ∷
    "notice 0aF" ∷
    "notice 0g" ∷
    "help me" ∷
    "HELP" ∷
    "Halp # me" ∷
    "Write 7 CLOSE 1 1:30" ∷
    "open 1 0:00 1:30:00 2 10 4 # the film" ∷
    "open 1 2 # 3" ∷
    "change 1 1:60 4" ∷
    "change 1:00 0 4" ∷
    "write 7 close 1 5124095576030:25:51.615" ∷
    "write 7 close 1 5124095576030:25:51.616" ∷
    "when 1 4 5" ∷
    "when 1 4 HOLD" ∷
    "when 1 4 open" ∷
    "when 1 4 lift 5" ∷
    "balance 1:00 3 10 4 20" ∷
    "balance 4 3" ∷
    "titles 0" ∷
    "lanes 1 0:00:30.250 32" ∷
    "quit" ∷
    "Draw" ∷
    "draw 1" ∷
    []

abbrev pub meanings : List (List ℕ)
meanings =
    (8 ∷ 0 ∷ 11 ∷ 3 ∷ 0 ∷ 12 ∷ []) ∷
    (4 ∷ 0 ∷ 34 ∷ 7 ∷ 18446744073709551615 ∷ []) ∷
    (0 ∷ 0 ∷ 0 ∷ []) ∷
    (2 ∷ 3 ∷ 8 ∷ 1 ∷ 2 ∷ []) ∷
    (9 ∷ 5 ∷ 8 ∷ []) ∷
    (10 ∷ 11 ∷ 13 ∷ 2 ∷ 4 ∷ 4 ∷ 0 ∷ []) ∷
    (14 ∷ 0 ∷ 14 ∷ 3 ∷ 9 ∷ 12 ∷ []) ∷
    (15 ∷ 11 ∷ 17 ∷ 3 ∷ 10 ∷ 4 ∷ 0 ∷ []) ∷
    (16 ∷ 0 ∷ 12 ∷ 4 ∷ 16 ∷ []) ∷
    (16 ∷ 0 ∷ 19 ∷ 4 ∷ 16 ∷ 1 ∷ 2000 ∷ []) ∷
    (16 ∷ 6 ∷ 10 ∷ 4 ∷ []) ∷
    (16 ∷ 4 ∷ 54 ∷ 0 ∷ 0 ∷ 1 ∷ 2 ∷ 3 ∷ 4 ∷ 5 ∷ 6 ∷ 7 ∷ 8 ∷ 9 ∷ 10 ∷ 11 ∷ 12 ∷ 13 ∷ 14 ∷ 15 ∷ 16 ∷ 17 ∷ []) ∷
    (11 ∷ 3 ∷ 13 ∷ 8 ∷ 1 ∷ 2 ∷ 3 ∷ []) ∷
    (22 ∷ 0 ∷ 36 ∷ 7 ∷ 1 ∷ 18446744073709551615 ∷ []) ∷
    (22 ∷ 6 ∷ 16 ∷ 7 ∷ 1 ∷ []) ∷
    (5 ∷ 0 ∷ 8 ∷ 1 ∷ 4 ∷ []) ∷
    (24 ∷ 0 ∷ 16 ∷ 7 ∷ 1 ∷ 4 ∷ []) ∷
    (7 ∷ 0 ∷ 15 ∷ 1 ∷ 4 ∷ 1200 ∷ 4 ∷ []) ∷
    (25 ∷ 0 ∷ 23 ∷ 7 ∷ 1 ∷ 4 ∷ 1200 ∷ 4 ∷ []) ∷
    (25 ∷ 6 ∷ 22 ∷ 7 ∷ 1 ∷ 4 ∷ 1200 ∷ []) ∷
    (17 ∷ 0 ∷ 12 ∷ 4 ∷ 3 ∷ []) ∷
    (17 ∷ 11 ∷ 13 ∷ 4 ∷ 3 ∷ []) ∷
    (18 ∷ 2 ∷ 8 ∷ 7 ∷ []) ∷
    (12 ∷ 0 ∷ 9 ∷ 5 ∷ []) ∷
    (13 ∷ 7 ∷ 7 ∷ []) ∷
    (13 ∷ 8 ∷ 8 ∷ []) ∷
    (19 ∷ 4 ∷ 5 ∷ []) ∷
    (19 ∷ 0 ∷ 4 ∷ []) ∷
    (0 ∷ 2 ∷ 0 ∷ []) ∷
    (22 ∷ 0 ∷ 20 ∷ 7 ∷ 1 ∷ 5400000 ∷ []) ∷
    (2 ∷ 0 ∷ 27 ∷ 1 ∷ 0 ∷ 5400000 ∷ 2 ∷ 10 ∷ 4 ∷ []) ∷
    (2 ∷ 3 ∷ 9 ∷ 1 ∷ 2 ∷ []) ∷
    (3 ∷ 12 ∷ 9 ∷ 1 ∷ []) ∷
    (3 ∷ 5 ∷ 8 ∷ []) ∷
    (22 ∷ 0 ∷ 39 ∷ 7 ∷ 1 ∷ 18446744073709551615 ∷ []) ∷
    (22 ∷ 6 ∷ 16 ∷ 7 ∷ 1 ∷ []) ∷
    (26 ∷ 0 ∷ 10 ∷ 1 ∷ 4 ∷ 5 ∷ []) ∷
    (33 ∷ 0 ∷ 13 ∷ 1 ∷ 4 ∷ []) ∷
    (26 ∷ 5 ∷ 9 ∷ 1 ∷ 4 ∷ []) ∷
    (34 ∷ 4 ∷ 14 ∷ 1 ∷ 4 ∷ []) ∷
    (27 ∷ 0 ∷ 22 ∷ 3600000 ∷ 3 ∷ 10 ∷ 4 ∷ 20 ∷ []) ∷
    (27 ∷ 3 ∷ 11 ∷ 4 ∷ 3 ∷ []) ∷
    (28 ∷ 0 ∷ 8 ∷ 0 ∷ []) ∷
    (29 ∷ 0 ∷ 22 ∷ 1 ∷ 30250 ∷ 32 ∷ []) ∷
    (30 ∷ 0 ∷ 4 ∷ []) ∷
    (31 ∷ 0 ∷ 4 ∷ []) ∷
    (31 ∷ 4 ∷ 5 ∷ []) ∷
    []

-- the lines above, one after the other, mean what the list says
pub shown : each lines ≡ meanings
unfolding told each is_sort run run_end amount too_large text same lower_of lowered has_colon is_part is_thousandths is_tail is_clock pair_at tail_ms clock_ms command_table command_of name_of seek verb_of least_of most_of enough takes_hex takes_kind takes_act is_timed asks_plan
    limit_of crowded oversized blank with_fault line_ended go_on with_amount with_digits with_clock with_number with_act with_kind with_hex word_at with_word line_ends_at step with_verb begun
    read_on meaning
shown = refl
