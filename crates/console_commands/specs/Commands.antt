-- The console's commands, the words that name them, and how many numbers each takes, of which size and which are times
-- (docs/CONSOLE.md, "Commands").
use Rattle.std.specs.Prelude.{ℕ, suc, ◌+◌, ◌-◌, ◌*◌, ◌%◌, Bool, false, List, [], ◌∷◌, get_or, take, eqb, leb, ltb}
use Prim.Native.String.{String}
use Rattle.rules.specs.Limits.{both, either, plan_places, titles_max}
use Rattle.rules.specs.Refusals.{pick}
use Rattle.text.specs.Texts.{text, same}
use Rattle.text.specs.declared.bytes.Sort.TheVariants.{Word}
use Rattle.text.specs.Bytes.{run}
use Rattle.text.specs.Numbers.{byte_most, four_bytes_most, top}
use Rattle.console_commands.specs.declared.commands.Command.{Command}
use Rattle.console_commands.specs.Letters.{lowered}

-- a line that asks nothing
abbrev pub none : ℕ
none = 0

abbrev pub do_fresh : ℕ
do_fresh = 1

abbrev pub do_open : ℕ
do_open = 2

abbrev pub do_change : ℕ
do_change = 3

abbrev pub do_close : ℕ
do_close = 4

abbrev pub do_hold : ℕ
do_hold = 5

abbrev pub do_lift : ℕ
do_lift = 6

-- opens a skip-forward title; the last of the events
abbrev pub do_skip : ℕ
do_skip = 7

abbrev pub do_lane : ℕ
do_lane = 8

abbrev pub do_status : ℕ
do_status = 9

abbrev pub do_plan : ℕ
do_plan = 10

abbrev pub do_share : ℕ
do_share = 11

abbrev pub do_read : ℕ
do_read = 12

abbrev pub do_notice : ℕ
do_notice = 13

-- lane and plan, asked of the small box
abbrev pub do_rom_lane : ℕ
do_rom_lane = 14

abbrev pub do_rom_plan : ℕ
do_rom_plan = 15

abbrev pub do_planner : ℕ
do_planner = 16

-- the plan of a skip-forward title's box
abbrev pub do_skip_plan : ℕ
do_skip_plan = 17

-- a write whose kind has not been read; the kind's number is added to it
abbrev pub do_write : ℕ
do_write = 18

abbrev pub do_help : ℕ
do_help = 19

abbrev pub write_open : ℕ
write_open = 20

abbrev pub write_change : ℕ
write_change = 21

abbrev pub write_close : ℕ
write_close = 22

abbrev pub write_hold : ℕ
write_hold = 23

abbrev pub write_lift : ℕ
write_lift = 24

abbrev pub write_skip : ℕ
write_skip = 25

-- asks when a change to a count is accepted; its last word may be another event instead, which makes it one of the last three
abbrev pub do_when : ℕ
do_when = 26

-- the planner with rates by id
abbrev pub do_balance : ℕ
do_balance = 27

abbrev pub do_titles : ℕ
do_titles = 28

abbrev pub do_lanes : ℕ
do_lanes = 29

abbrev pub do_quit : ℕ
do_quit = 30

-- on a terminal, each event shows its title's lanes from here on, or no longer does
abbrev pub do_draw : ℕ
do_draw = 31

abbrev pub when_close : ℕ
when_close = 32

abbrev pub when_hold : ℕ
when_hold = 33

abbrev pub when_lift : ℕ
when_lift = 34

-- how many commands there are
abbrev pub command_count : ℕ
command_count = 35

-- what a line may name at most: ids of a status, titles of a share and rates of a planner, places of a plan, as many as the
-- longest has, and places for a planner's list, one for each title. One title or rate more than the product takes, so that
-- its own refusal is seen
abbrev pub ids_most : ℕ
ids_most = 32

abbrev pub titles_most : ℕ
titles_most = 17

abbrev pub places_most : ℕ
places_most = plan_places

abbrev pub room_most : ℕ
room_most = titles_max

-- the numbers of a title in a share: rate, length, floor, cap
abbrev pub title_numbers : ℕ
title_numbers = 4

-- which of a share's numbers is its first title's length, from 0
abbrev pub share_length : ℕ
share_length = 2

-- the numbers of a title in a balance: id, rate
abbrev pub rated_numbers : ℕ
rated_numbers = 2

-- a balance: a time, and its titles
abbrev pub balance_most : ℕ
balance_most = 1 + rated_numbers * titles_max

-- no command has more words after its own than a share: a pool, and its titles
abbrev pub words_most : ℕ
words_most = 1 + title_numbers * titles_most

-- no command limits more of its numbers than these
abbrev pub limited : ℕ
limited = 7

-- a limit of 0: any value is handed on
abbrev pub any : ℕ
any = 0

abbrev pub free : List ℕ
free = any ∷ any ∷ any ∷ any ∷ any ∷ any ∷ any ∷ []

-- a row: the word, with spaces behind it, and blank where no word alone names the command; the fewest words after it and the
-- most; at which place, from 0, the numbers that are times or lengths begin, and how many they are; and by place the largest
-- value of a number, where a larger one is an error of the line. Of a notice's fields (01, "Notices"), and of the places lent
-- for a plan and for a planner's list
abbrev pub command_row : String → ℕ → ℕ → ℕ → ℕ → List ℕ → Command
command_row w least most time times limits =
    record { word = text w; least = least; most = most; time = time; times = times; limits = limits }

-- a row for each command, by its number: fresh and the events, what asks and tells, the kinds of a write, and what shows a pool
-- to people, with quit and draw
unfoldable pub command_table : List Command
command_table =
    command_row "        " 0 0 0 0 free
    ∷ command_row "fresh   " 1 1 0 0 free
    ∷ command_row "open    " 6 6 1 2 free
    ∷ command_row "change  " 3 3 1 1 free
    ∷ command_row "close   " 2 2 1 1 free
    ∷ command_row "hold    " 2 2 1 1 free
    ∷ command_row "lift    " 2 2 1 1 free
    ∷ command_row "skip    " 4 4 1 2 free
    ∷ command_row "lane    " 3 3 2 1 free
    ∷ command_row "status  " 1 (1 + ids_most) 0 1 free
    ∷ command_row "plan    " 4 5 0 0 (any ∷ any ∷ any ∷ any ∷ places_most ∷ any ∷ any ∷ [])
    ∷ command_row "share   " 1 words_most 0 0 free
    ∷ command_row "read    " 1 1 0 0 free
    ∷ command_row "notice  " 1 1 0 0 free
    ∷ command_row "romlane " 3 3 2 1 free
    ∷ command_row "romplan " 4 5 0 0 (any ∷ any ∷ any ∷ any ∷ places_most ∷ any ∷ any ∷ [])
    ∷ command_row "planner " 2 (2 + titles_most) 0 1 (any ∷ room_most ∷ any ∷ any ∷ any ∷ any ∷ any ∷ [])
    ∷ command_row "skipplan" 2 3 0 0 (any ∷ any ∷ places_most ∷ any ∷ any ∷ any ∷ any ∷ [])
    ∷ command_row "write   " 2 2 0 0 (four_bytes_most ∷ any ∷ any ∷ any ∷ any ∷ any ∷ any ∷ [])
    ∷ command_row "help    " 0 0 0 0 free
    ∷ command_row "        " 7 7 2 2 (four_bytes_most ∷ byte_most ∷ top ∷ four_bytes_most ∷ byte_most ∷ byte_most ∷ byte_most ∷ [])
    ∷ command_row "        " 4 4 2 1 (four_bytes_most ∷ byte_most ∷ top ∷ byte_most ∷ any ∷ any ∷ any ∷ [])
    ∷ command_row "        " 3 3 2 1 (four_bytes_most ∷ byte_most ∷ top ∷ any ∷ any ∷ any ∷ any ∷ [])
    ∷ command_row "        " 3 3 2 1 (four_bytes_most ∷ byte_most ∷ top ∷ any ∷ any ∷ any ∷ any ∷ [])
    ∷ command_row "        " 3 3 2 1 (four_bytes_most ∷ byte_most ∷ top ∷ any ∷ any ∷ any ∷ any ∷ [])
    ∷ command_row "        " 5 5 2 2 (four_bytes_most ∷ byte_most ∷ top ∷ four_bytes_most ∷ byte_most ∷ any ∷ any ∷ [])
    ∷ command_row "when    " 3 3 1 1 free
    ∷ command_row "balance " 1 balance_most 0 1 free
    ∷ command_row "titles  " 1 1 0 1 free
    ∷ command_row "lanes   " 3 3 1 1 free
    ∷ command_row "quit    " 0 0 0 0 free
    ∷ command_row "draw    " 0 0 0 0 free
    ∷ command_row "        " 2 2 1 1 free
    ∷ command_row "        " 2 2 1 1 free
    ∷ command_row "        " 2 2 1 1 free
    ∷ []

-- the row of a command; past the last, that of a line that asks nothing
abbrev pub no_command : Command
no_command = command_row "        " 0 0 0 0 free

unfoldable pub command_of : ℕ → Command
command_of c = get_or command_table c no_command

-- the word of a row
unfoldable pub name_of : Command → List ℕ
name_of r = take (run Word r.word) r.word

-- the first of the rows from the i-th on whose word is w
unfoldable pub seek : List ℕ → ℕ → List Command → ℕ
seek w i [] = none
seek w i (r ∷ rows) = pick (same w (name_of r)) i (seek w (suc i) rows)

-- the command that a word names, in either case
unfoldable pub verb_of : List ℕ → ℕ
verb_of w = seek (lowered w) 0 command_table

unfoldable pub least_of : ℕ → ℕ
least_of c = (command_of c).least

unfoldable pub most_of : ℕ → ℕ
most_of c = (command_of c).most

-- the command may end after n words: sharing after its pool and whole titles, a balance after its time and whole titles, any
-- other from its least on
unfoldable pub enough : ℕ → ℕ → Bool
enough c n =
    pick (eqb c do_share) (eqb (n % title_numbers) 1) (pick (eqb c do_balance) (eqb (n % rated_numbers) 1) (leb (least_of c) n))

-- the command's word is HEX
unfoldable pub takes_hex : ℕ → Bool
takes_hex c = either (eqb c do_read) (eqb c do_notice)

-- the word after a write's sequence is the notice's kind
unfoldable pub takes_kind : ℕ → ℕ → Bool
takes_kind c n = both (eqb c do_write) (eqb n 1)

-- the word after id and time may be an event whose time is asked for
unfoldable pub takes_act : ℕ → ℕ → Bool
takes_act c n = both (eqb c do_when) (eqb n 2)

-- the n-th number, from 0, is a time or a length
unfoldable pub is_timed : ℕ → ℕ → Bool
is_timed c n =
    pick (eqb c do_share) (eqb (n % title_numbers) share_length)
    (pick (ltb n (command_of c).time) false (ltb (n - (command_of c).time) (command_of c).times))

-- the command asks for a plan, whose places may stand last
unfoldable pub asks_plan : ℕ → Bool
asks_plan c = either (eqb c do_plan) (either (eqb c do_skip_plan) (eqb c do_rom_plan))

-- the largest value of a command's n-th number, from 0
unfoldable pub limit_of : ℕ → ℕ → ℕ
limit_of c n = pick (ltb n limited) (get_or (command_of c).limits n 0) 0

-- what can be wrong with a line
abbrev pub no_fault : ℕ
no_fault = 0

abbrev pub too_long : ℕ
too_long = 1

abbrev pub unknown_word : ℕ
unknown_word = 2

abbrev pub too_few : ℕ
too_few = 3

abbrev pub too_many_numbers : ℕ
too_many_numbers = 4

abbrev pub not_number : ℕ
not_number = 5

abbrev pub too_big : ℕ
too_big = 6

abbrev pub odd_hex : ℕ
odd_hex = 7

abbrev pub bad_hex : ℕ
bad_hex = 8

abbrev pub too_many_ids : ℕ
too_many_ids = 9

abbrev pub too_many_titles : ℕ
too_many_titles = 10

abbrev pub too_many_places : ℕ
too_many_places = 11

abbrev pub not_time : ℕ
not_time = 12

-- not read to its end yet
abbrev pub unread : ℕ
unread = 13

-- the fault of a word too many, by command
unfoldable pub crowded : ℕ → ℕ
crowded c = pick (eqb c do_status) too_many_ids (pick (eqb c do_share) too_many_titles too_many_numbers)

-- the fault of a number above its limit, by command
unfoldable pub oversized : ℕ → ℕ
oversized c = pick (asks_plan c) too_many_places too_big
