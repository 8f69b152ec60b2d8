-- What a line of the console means: which command with which numbers, or what is wrong with it and at which byte
-- (docs/CONSOLE.md, "Lines"). A line is read from the left, word by word; the first thing wrong decides.
use Rattle.std.specs.Prelude.{ℕ, zero, suc, ◌+◌, ◌-◌, ◌%◌, min, Bool, true, List, length, get_or, take, drop, set, replicate, eqb, leb, ltb}
use Rattle.rules.specs.Limits.{both, within}
use Rattle.rules.specs.Refusals.{pick}
use Rattle.text.specs.declared.bytes.Sort.TheVariants.{Separator, Word, Digit, Hex}
use Rattle.console_lines.specs.declared.lines.Line.{Line}
use Rattle.text.specs.Bytes.{run_end}
use Rattle.text.specs.Numbers.{top, amount, too_large}
use Rattle.clocks.specs.Clocks.{has_colon, is_clock, clock_ms}
use Rattle.console_commands.specs.Commands

-- room for the numbers of a line; no command has so many
abbrev pub numbers_most : ℕ
numbers_most = 72

-- the number at a place of a line
abbrev pub number_in : Line → ℕ → ℕ
number_in l i = get_or l.numbers i 0

-- a line that answers nothing
unfoldable pub blank : Line
blank =
    record {
      command = Commands.none;
      fault = Commands.no_fault;
      place = 0;
      count = 0;
      numbers = replicate numbers_most 0;
    }

-- the reading stops at a place: for a fault, or for none at the line's end
unfoldable pub with_fault : Line → ℕ → ℕ → Line
with_fault l f p = record { command = l.command; fault = f; place = p; count = l.count; numbers = l.numbers }

-- no word is left
unfoldable pub line_ended : Line → ℕ → Line
line_ended l p = with_fault l (pick (Commands.enough l.command l.count) Commands.no_fault Commands.too_few) p

-- the next number of the command is v, and the reading goes on at e
unfoldable pub go_on : Line → ℕ → ℕ → Line
go_on l v e =
    record {
      command = l.command;
      fault = l.fault;
      place = e;
      count = l.count + 1;
      numbers = set l.numbers l.count (min v top);
    }

-- the word from a to e is the number v, and no larger than its limit
unfoldable pub with_amount : Line → ℕ → ℕ → ℕ → Line
with_amount l a e v =
    pick (too_large (Commands.limit_of l.command l.count) v) (with_fault l (Commands.oversized l.command) a) (go_on l v e)

-- the word from a to e is a number in decimal: digits only
unfoldable pub with_digits : List ℕ → Line → ℕ → ℕ → Line
with_digits s l a e =
    pick (ltb (run_end Digit s a) e) (with_fault l Commands.not_number (run_end Digit s a)) (with_amount l a e (amount 0 (drop a s)))

-- the word that starts at a
unfoldable pub word_at : List ℕ → ℕ → List ℕ
word_at s a = take (run_end Word s a - a) (drop a s)

-- the word w is a time of the clock: one of its three forms
unfoldable pub with_clock : List ℕ → Line → ℕ → ℕ → Line
with_clock w l a e = pick (is_clock w) (with_amount l a e (clock_ms w)) (with_fault l Commands.not_time a)

-- the word from a to e is a number; a time or a length that has a colon in it is one of the clock
unfoldable pub with_number : List ℕ → Line → ℕ → ℕ → Line
with_number s l a e =
    pick (both (Commands.is_timed l.command l.count) (has_colon (word_at s a))) (with_clock (word_at s a) l a e)
    (with_digits s l a e)

-- the word is the kind of the notice to write: that of an event
unfoldable pub with_kind : List ℕ → Line → ℕ → ℕ → Line
with_kind w l a e =
    pick (within Commands.do_open Commands.do_skip (Commands.verb_of w))
    (record {
      command = Commands.do_write + Commands.verb_of w;
      fault = l.fault;
      place = e;
      count = l.count;
      numbers = l.numbers;
    })
    (with_fault l Commands.unknown_word a)

-- the word from a to e is the event whose time is asked for, close, hold or lift; any other word is the count of a change
unfoldable pub with_act : List ℕ → Line → ℕ → ℕ → Line
with_act s l a e =
    pick (within Commands.do_close Commands.do_lift (Commands.verb_of (word_at s a)))
    (record {
      command = Commands.when_close + (Commands.verb_of (word_at s a) - Commands.do_close);
      fault = l.fault;
      place = e;
      count = l.count;
      numbers = l.numbers;
    })
    (with_number s l a e)

-- the word from a to e is hexadecimal: an even count of digits. Kept are its two ends
unfoldable pub with_hex : List ℕ → Line → ℕ → ℕ → Line
with_hex s l a e =
    pick (ltb (run_end Hex s a) e) (with_fault l Commands.bad_hex (run_end Hex s a))
    (pick (eqb ((e - a) % 2) 1) (with_fault l Commands.odd_hex a)
    (record {
      command = l.command;
      fault = l.fault;
      place = e;
      count = 1;
      numbers = set (set l.numbers 0 a) 1 e;
    }))

-- the next word starts at a, and there is one
unfoldable pub with_word : List ℕ → Line → ℕ → Line
with_word s l a =
    pick (leb (Commands.most_of l.command) l.count) (with_fault l (Commands.crowded l.command) a)
    (pick (Commands.takes_hex l.command) (with_hex s l a (run_end Word s a))
    (pick (Commands.takes_kind l.command l.count) (with_kind (word_at s a) l a (run_end Word s a))
    (pick (Commands.takes_act l.command l.count) (with_act s l a (run_end Word s a))
    (with_number s l a (run_end Word s a)))))

-- the byte #
abbrev pub hash : ℕ
hash = 35

-- a word that begins with # stands at a, or nothing does: there a line's words end
unfoldable pub line_ends_at : List ℕ → ℕ → Bool
line_ends_at s a = pick (ltb a (length s)) (eqb (get_or s a 0) hash) true

-- the next word of the line, or its end
unfoldable pub step : List ℕ → Line → Line
step s l =
    pick (line_ends_at s (run_end Separator s l.place)) (line_ended l (run_end Separator s l.place))
    (with_word s l (run_end Separator s l.place))

-- the first word, at a, is the command v
unfoldable pub with_verb : ℕ → ℕ → ℕ → Line
with_verb v a e =
    pick (eqb v Commands.none) (with_fault blank Commands.unknown_word a)
    (record { command = v; fault = Commands.unread; place = e; count = 0; numbers = replicate numbers_most 0 })

-- the longest line, its newline not counted
abbrev pub longest : ℕ
longest = 4095

-- the first word: none, or one that begins with #, asks nothing
unfoldable pub begun : List ℕ → Line
begun s =
    pick (ltb longest (length s)) (with_fault blank Commands.too_long longest)
    (pick (line_ends_at s (run_end Separator s 0)) blank
    (with_verb (Commands.verb_of (word_at s (run_end Separator s 0))) (run_end Separator s 0)
    (run_end Word s (run_end Separator s 0))))

-- reading on, at most so many words, until the line is whole or faulty
unfoldable pub read_on : ℕ → List ℕ → Line → Line
read_on zero s l = l
read_on (suc n) s l = pick (eqb l.fault Commands.unread) (read_on n s (step s l)) l

-- what the line s means. No command has so many words after its own
unfoldable pub meaning : List ℕ → Line
meaning s = read_on numbers_most s (begun s)
