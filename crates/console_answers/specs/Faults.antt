-- What is wrong with a line, in words, and help (docs/CONSOLE.md, "Faults of a line").
use Rattle.std.specs.Prelude.{ℕ, ◌+◌, min, List, [], ◌∷◌, ◌++◌, get_or}
use Rattle.text.specs.Texts.{text}
use Rattle.text.specs.Bytes.{newline}
use Rattle.text.specs.Numbers.{top}
use Rattle.text.specs.Digits.{decimal}
use Rattle.console_commands.specs.Commands

-- what is wrong with a line, in words, by the number of its fault; 0 is none
abbrev pub faults : List (List ℕ)
faults =
    text "" ∷
    text "line longer than 4095 bytes" ∷
    text "unknown word" ∷
    text "too few numbers" ∷
    text "too many numbers" ∷
    text "not a digit" ∷
    text "number too large" ∷
    text "odd count of hexadecimal digits" ∷
    text "not a hexadecimal digit" ∷
    text "more than 32 ids" ∷
    text "more than 17 titles" ∷
    text "more than 4096 places" ∷
    text "not a time" ∷ []

unfoldable pub fault_words : ℕ → List ℕ
fault_words f = get_or faults f []

-- a place counted from 1, of a line of any length that memory holds
abbrev pub from_one : ℕ → ℕ
from_one p = min (p + 1) top

-- of those that ask when another event than a change is accepted
abbrev pub when_usage : List ℕ
when_usage = text "when ID TIME close|hold|lift"

-- how each command is written, by its number; a line without a known one is sent to help.
unfoldable pub usages : List (List ℕ)
usages =
    text "help lists the commands" ∷
    text "fresh POOL" ∷
    text "open ID TIME LENGTH FLOOR CAP COUNT" ∷
    text "change ID TIME COUNT" ∷
    text "close ID TIME" ∷
    text "hold ID TIME" ∷
    text "lift ID TIME" ∷
    text "skip ID TIME LENGTH COUNT" ∷
    text "lane ID LANE TIME" ∷
    text "status TIME ID .." ∷
    text "plan FLOOR CAP COUNT ARRIVAL [PLACES]" ∷
    text "share POOL RATE LENGTH FLOOR CAP .." ∷
    text "read HEX" ∷
    text "notice HEX" ∷
    text "romlane ID LANE TIME" ∷
    text "romplan FLOOR CAP COUNT ARRIVAL [PLACES]" ∷
    text "planner TIME ROOM RATE .." ∷
    text "skipplan COUNT ARRIVAL [PLACES]" ∷
    text "write SEQ open|change|close|hold|lift|skip ID TIME .." ∷
    text "help" ∷
    text "write SEQ open ID TIME LENGTH FLOOR CAP COUNT" ∷
    text "write SEQ change ID TIME COUNT" ∷
    text "write SEQ close ID TIME" ∷
    text "write SEQ hold ID TIME" ∷
    text "write SEQ lift ID TIME" ∷
    text "write SEQ skip ID TIME LENGTH COUNT" ∷
    text "when ID TIME COUNT" ∷
    text "balance TIME ID RATE .." ∷
    text "titles TIME" ∷
    text "lanes ID TIME TICKS" ∷
    text "quit" ∷
    text "draw" ∷
    when_usage ∷
    when_usage ∷
    when_usage ∷ []

unfoldable pub usage_of : ℕ → List ℕ
usage_of c = get_or usages c []

-- the answer to a line that cannot be read: what is wrong, at which byte, counted from 1, and how its command is written
unfoldable pub fault_text : ℕ → ℕ → ℕ → List ℕ
fault_text f p c =
    ((((text "? " ++ fault_words f) ++ text " at byte ") ++ decimal (from_one p)) ++ text ": ") ++ usage_of c

-- the commands as help lists them; write by its kinds, and of those that are written alike the first
unfoldable pub help_order : List ℕ
help_order =
    Commands.do_fresh ∷
    Commands.do_open ∷
    Commands.do_change ∷
    Commands.do_close ∷
    Commands.do_hold ∷
    Commands.do_lift ∷
    Commands.do_skip ∷
    Commands.do_lane ∷
    Commands.do_status ∷
    Commands.do_plan ∷
    Commands.do_share ∷
    Commands.do_rom_lane ∷
    Commands.do_rom_plan ∷
    Commands.do_planner ∷
    Commands.do_skip_plan ∷
    Commands.write_open ∷
    Commands.write_change ∷
    Commands.write_close ∷
    Commands.write_hold ∷
    Commands.write_lift ∷
    Commands.write_skip ∷
    Commands.do_read ∷
    Commands.do_notice ∷
    Commands.do_when ∷
    Commands.when_close ∷
    Commands.do_balance ∷
    Commands.do_titles ∷
    Commands.do_lanes ∷
    Commands.do_draw ∷
    Commands.do_quit ∷
    Commands.do_help ∷ []

-- usages, each behind a newline
unfoldable pub usage_lines : List ℕ → List ℕ
usage_lines [] = []
usage_lines (c ∷ cs) = (newline ∷ usage_of c) ++ usage_lines cs

-- the usages of some commands, one to a line, with a newline between any two
unfoldable pub parted : List ℕ → List ℕ
parted [] = []
parted (c ∷ cs) = usage_of c ++ usage_lines cs

-- the commands, a line each
unfoldable pub help_text : List ℕ
help_text = parted help_order
