-- A change that is printed can be entered: its line, read as a line of the console, is whole, and its event is that change.
-- Rests on the reading of one number.
use Prim.Native.Nat.{ℕ, suc, ◌+◌, ◌-◌, ◌≤◌, ◌<◌, min}
use mathlib.Core.Path.{◌≡◌, refl, sym, ap, ◌∙◌}
use mathlib.Core.Bool.{true}
use mathlib.Core.List.{List, [], ◌∷◌, ◌++◌, append_assoc, append-nil}
use native.Mathlib.Omega.{arith}
use borrow.Author.Tests.{lt-ltb, le-ltb}
use lib.ListN.{length, drop, replicate, length-append, length-drop}
use Rattle.text.specs.Texts.{text, same}
use Rattle.text.specs.declared.bytes.Sort.TheVariants.{Separator}
use Rattle.text.specs.Bytes.{is_sort, run, run_end}
use Rattle.text.specs.Numbers.{top}
use Rattle.text.specs.Digits.{decimal}
use Rattle.text.proofs.Printing.{decimal_short}
use Rattle.planner.specs.Moves.{Move}
use Rattle.console_commands.specs.Letters.{lower_of, lowered}
use Rattle.console_commands.specs.Commands.{command_table, command_of, name_of, seek, verb_of, least_of, most_of, enough, takes_hex, takes_kind}
use Rattle.console_commands.specs.Commands.{takes_act, limit_of, do_change, unread}
use Rattle.console_lines.specs.declared.lines.Line.{Line}
use Rattle.console_lines.specs.Lines.{numbers_most, with_fault, line_ended, go_on, word_at, line_ends_at, step, with_verb, longest, begun, read_on, meaning}
use Rattle.console_lines.proofs.Reading.{read_on_lem, read_stop}
use Rattle.console_answers.specs.Entries.{entry}
use Rattle.console_acts.specs.Events.{act_by, event_in}
use Rattle.console_balance.specs.Balance.{change_text}
use Rattle.console_balance.specs.Entered.{Spelt, Enters}
use Rattle.console_balance.proofs.Words.{at_end, at_space, TakesAny, taken, rest}

-- what is left of the line behind its word, and behind each of its first two numbers
abbrev third : Move → List ℕ
third m = 32 ∷ (decimal m.count ++ [])

abbrev second : Move → List ℕ
second m = 32 ∷ (decimal m.time ++ third m)

abbrev behind_word : Move → List ℕ
behind_word m = 32 ∷ (decimal m.title ++ second m)

abbrev spelled : Move → List ℕ
spelled m = 99 ∷ 104 ∷ 97 ∷ 110 ∷ 103 ∷ 101 ∷ behind_word m

shape : (m : Move) → change_text m ≡ spelled m
unfolding change_text entry text
shape m =
    rw (append-nil (decimal m.count), append_assoc (decimal m.title) (32 ∷ decimal m.time) (32 ∷ decimal m.count)) refl

-- no such line is too long
short : (m : Move) → length (spelled m) ≤ longest
short m =
    omega
    (arith, decimal_short m.title, decimal_short m.time, decimal_short m.count, length-append (decimal m.title) (second m), length-append (decimal m.time) (third m), length-append (decimal m.count) [])

-- the line once its word is read,
abbrev worded : Line
worded = record { command = do_change; fault = unread; place = 6; count = 0; numbers = replicate numbers_most 0 }

begins : (m : Move) → begun (spelled m) ≡ worded
unfolding begun run_end run is_sort line_ends_at word_at with_verb verb_of seek command_table name_of same text lowered lower_of
begins m =
    let some : 0 < length (spelled m) = omega arith in
    rw (le-ltb longest (length (spelled m)) (short m), lt-ltb 0 (length (spelled m)) some) refl

-- and once its numbers are, one behind the other
abbrev one : Move → Line
one m = go_on worded m.title (6 + 1 + length (decimal m.title))

abbrev two : Move → Line
two m = go_on (one m) m.time ((one m).place + 1 + length (decimal m.time))

abbrev three : Move → Line
three m = go_on (two m) m.count ((two m).place + 1 + length (decimal m.count))

takes_title : TakesAny do_change 0
unfolding most_of command_of command_table takes_hex takes_kind takes_act limit_of
takes_title = record { more = omega arith; no_hex = refl; no_kind = refl; no_act = refl; no_limit = refl }

takes_time : TakesAny do_change 1
unfolding most_of command_of command_table takes_hex takes_kind takes_act limit_of
takes_time = record { more = omega arith; no_hex = refl; no_kind = refl; no_act = refl; no_limit = refl }

takes_count : TakesAny do_change 2
unfolding most_of command_of command_table takes_hex takes_kind takes_act limit_of
takes_count = record { more = omega arith; no_hex = refl; no_kind = refl; no_act = refl; no_limit = refl }

-- one more word is read
reads : (s : List ℕ) (n : ℕ) (l k : Line) → l.fault ≡ unread → step s l ≡ k → read_on (suc n) s l ≡ read_on n s k
reads s n l k f e = sym (read_on_lem s l (suc n) n refl f) ∙ ap (read_on n s) e

module _ (m : Move) (ok : Spelt m) where
  at_second : drop (one m).place (spelled m) ≡ second m
  unfolding go_on
  at_second = rest (spelled m) worded m.title (second m) refl at_space ok.title takes_title

  at_third : drop (two m).place (spelled m) ≡ third m
  unfolding go_on
  at_third = rest (spelled m) (one m) m.time (third m) at_second at_space ok.time takes_time

  at_last : drop (three m).place (spelled m) ≡ []
  unfolding go_on
  at_last = rest (spelled m) (two m) m.count [] at_third at_end ok.count takes_count

  ended : line_ends_at (spelled m) (run_end Separator (spelled m) (three m).place) ≡ true
  unfolding line_ends_at run_end run
  ended =
      let none : length (spelled m) - (three m).place ≡ 0 = sym (length-drop (three m).place (spelled m)) ∙ ap length at_last in
      let past : length (spelled m) ≤ (three m).place + 0 = omega arith in
      rw at_last (rw (le-ltb _ _ past) refl)

  finishes : step (spelled m) (three m) ≡ line_ended (three m) (run_end Separator (spelled m) (three m).place)
  unfolding step
  finishes = rw ended refl

  abbrev finished : Line
  finished = line_ended (three m) (run_end Separator (spelled m) (three m).place)

  read_whole : meaning (spelled m) ≡ finished
  unfolding meaning go_on line_ended with_fault enough least_of command_of command_table
  read_whole =
      ap (read_on numbers_most (spelled m)) (begins m)
      ∙ reads (spelled m) 71 worded (one m) refl (taken (spelled m) worded m.title (second m) refl at_space ok.title takes_title)
      ∙ reads (spelled m) 70 (one m) (two m) refl (taken (spelled m) (one m) m.time (third m) at_second at_space ok.time takes_time)
      ∙ reads (spelled m) 69 (two m) (three m) refl (taken (spelled m) (two m) m.count [] at_third at_end ok.count takes_count)
      ∙ reads (spelled m) 68 (three m) finished refl finishes
      ∙ sym (read_stop (spelled m) finished 68 (λ e. omega arith))

  pub entered : Enters m
  unfolding go_on line_ended with_fault enough least_of command_of command_table event_in act_by
  entered =
      let i : min m.title top ≡ m.title = omega (arith, ok.title) in
      let τ : min m.time top ≡ m.time = omega (arith, ok.time) in
      let k : min m.count top ≡ m.count = omega (arith, ok.count) in
      let is : meaning (change_text m) ≡ finished = ap meaning (shape m) ∙ read_whole in
      record { whole = rw is refl; word = rw is refl; event = rw is (rw (i, τ, k) refl) }
