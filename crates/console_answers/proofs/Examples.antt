-- What is told of lines, computed: the answers to some that cannot be read; that the usage of each command begins with its word,
-- so that the two tables stand in one order; and which commands help does not list.
use Prim.Native.Nat.{ℕ, zero, suc}
use mathlib.Core.Path.{◌≡◌, refl}
use mathlib.Core.Bool.{Bool, true, false}
use mathlib.Core.List.{List, [], ◌∷◌, ◌++◌}
use lib.ListN.{length, take}
use lib.Dec.{eqb}
use Rattle.rules.specs.Limits.{both, either}
use Rattle.rules.specs.Refusals.{pick}
use Rattle.text.specs.Bytes.{is_sort, run}
use Rattle.text.specs.Digits.{digits, decimal}
use Rattle.text.specs.Texts.{text, same}
use Rattle.console_commands.specs.declared.commands.Command.{Command}
use Rattle.console_commands.specs.Commands
use Rattle.console_answers.specs.Faults.{fault_words, usages, usage_of, fault_text, help_order}

pub too_few_told : fault_text Commands.too_few 11 Commands.do_open
    ≡ text "? too few numbers at byte 12: open ID TIME LENGTH FLOOR CAP COUNT"
unfolding fault_text fault_words usages usage_of digits decimal text
too_few_told = refl

pub unknown_told : fault_text Commands.unknown_word 0 Commands.none ≡ text "? unknown word at byte 1: help lists the commands"
unfolding fault_text fault_words usages usage_of digits decimal text
unknown_told = refl

pub no_time_told : fault_text Commands.not_time 7 Commands.when_hold ≡ text "? not a time at byte 8: when ID TIME close|hold|lift"
unfolding fault_text fault_words usages usage_of digits decimal text
no_time_told = refl

-- each text begins with the word of its row, and there are as many
unfoldable pub begin : List Command → List (List ℕ) → Bool
begin [] [] = true
begin [] (u ∷ us) = false
begin (r ∷ rows) [] = false
begin (r ∷ rows) (u ∷ us) = both (same (take (length (Commands.name_of r)) u) (Commands.name_of r)) (begin rows us)

pub usages_begin : begin Commands.command_table usages ≡ true
unfolding begin same text is_sort run usages Commands.command_table Commands.name_of
usages_begin = refl

-- the numbers below n that do not stand in a row
unfoldable pub is_in : ℕ → List ℕ → Bool
is_in c [] = false
is_in c (d ∷ ds) = either (eqb c d) (is_in c ds)

unfoldable pub missing : List ℕ → ℕ → List ℕ
missing cs zero = []
missing cs (suc n) = missing cs n ++ pick (is_in n cs) [] (n ∷ [])

pub help_leaves_out : missing help_order Commands.command_count
    ≡ Commands.none ∷ Commands.do_write ∷ Commands.when_hold ∷ Commands.when_lift ∷ []
unfolding missing is_in help_order
help_leaves_out = refl
