-- Lines of the head-end, computed: which begin with a word that it does not know, and which say an event.
use Prim.Native.String.{String}
use mathlib.Core.Path.{◌≡◌, refl}
use mathlib.Core.Bool.{Bool, true, false}
use mathlib.Core.List.{List, [], ◌∷◌}
use Rattle.text.specs.Bytes.{is_sort, run, run_end}
use Rattle.text.specs.Numbers.{amount, too_large}
use Rattle.text.specs.Texts.{text, same}
use Rattle.clocks.specs.Clocks.{has_colon, is_part, is_thousandths, is_tail, is_clock, pair_at, tail_ms, clock_ms}
use Rattle.console_commands.specs.Letters.{lower_of, lowered}
use Rattle.console_commands.specs.Commands.{
  command_table,
  command_of,
  name_of,
  seek,
  verb_of,
  least_of,
  most_of,
  enough,
  takes_hex,
  takes_kind,
  takes_act,
  is_timed,
  asks_plan,
  limit_of,
  crowded,
  oversized,
}
use Rattle.console_lines.specs.Lines.{
  blank,
  with_fault,
  line_ended,
  go_on,
  with_amount,
  with_digits,
  word_at,
  with_clock,
  with_number,
  with_act,
  with_kind,
  with_hex,
  with_word,
  line_ends_at,
  step,
  with_verb,
  begun,
  read_on,
  meaning,
}
use Rattle.headend_desk.specs.Desk.{starts_apart, is_event_line}

-- the first word is unknown here, and the line says an event
pub record Sorted : Type 0 where
  pub apart : Bool
  pub event : Bool

unfoldable pub sorted : List String → List Sorted
unfolding is_sort run run_end amount too_large text same lower_of lowered has_colon is_part is_thousandths is_tail is_clock pair_at tail_ms clock_ms
    command_table command_of name_of seek verb_of least_of most_of enough takes_hex takes_kind takes_act is_timed asks_plan limit_of crowded oversized blank
    with_fault line_ended go_on with_amount with_digits with_clock with_number with_act with_kind with_hex word_at with_word line_ends_at step with_verb begun
    read_on meaning
sorted [] = []
sorted (s ∷ rest) = record { apart = starts_apart (text s); event = is_event_line (text s) } ∷ sorted rest

abbrev pub lines : List String
lines =
    "fresh 8" ∷ " notice 0g" ∷ "fresh" ∷ "# fresh 8" ∷ "write 1 fresh" ∷ "freshen" ∷ "close 1 4" ∷ "close 1 4 5" ∷ "status 4 1" ∷ "FRESH 8" ∷ "Close 1 0:04 # soon" ∷ []

abbrev pub kinds : List Sorted
kinds =
    record { apart = true; event = false }
    ∷ record { apart = true; event = false }
    ∷ record { apart = true; event = false }
    ∷ record { apart = false; event = false }
    ∷ record { apart = false; event = false }
    ∷ record { apart = false; event = false }
    ∷ record { apart = false; event = true }
    ∷ record { apart = false; event = false }
    ∷ record { apart = false; event = false }
    ∷ record { apart = true; event = false }
    ∷ record { apart = false; event = true }
    ∷ []

pub shown : sorted lines ≡ kinds
unfolding sorted is_sort run run_end amount too_large text same lower_of lowered has_colon is_part is_thousandths is_tail is_clock pair_at tail_ms clock_ms
    command_table command_of name_of seek verb_of least_of most_of enough takes_hex takes_kind takes_act is_timed asks_plan limit_of crowded oversized blank
    with_fault line_ended go_on with_amount with_digits with_clock with_number with_act with_kind with_hex word_at with_word line_ends_at step with_verb begun
    read_on meaning
shown = refl
