-- Laws of the table of commands: a computed test over all rows holds of each, and the search for a word goes row by row from
-- the last.
use Prim.Native.Nat.{ℕ, zero, suc, ◌-◌, ◌<◌, ◌≤◌}
use mathlib.Core.Path.{◌≡◌, refl, ap, ◌∙◌}
use mathlib.Core.Bool.{Bool, true}
use mathlib.Core.List.{List, [], ◌∷◌}
use native.Mathlib.Omega.{arith}
use borrow.Author.Tests.{leb-true, eqb-true}
use lib.ListN.{length, get_or, take, drop}
use lib.Seq.{drop-cons}
use lib.Dec.{leb, eqb}
use Rattle.rules.specs.Limits.{both}
use Rattle.rules.specs.Refusals.{pick}
use Rattle.rules.proofs.Tests.{both_l, both_r}
use Rattle.text.specs.declared.bytes.Sort.TheVariants.{Word}
use Rattle.std.specs.Slice.{IsItemAt}
use Rattle.std.specs.Option.{unwrap_or, option_copied}
use Rattle.std.proofs.Common.{Option, Bor, rules}
use Rattle.text.specs.Texts.{text, same}
use Rattle.text.specs.Bytes.{run, run_end}
use Rattle.text.proofs.Runs.{run_end_high}
use Rattle.console_commands.specs.declared.commands.Command.{Command}
use Rattle.console_commands.specs.Letters.{lowered}
use Rattle.console_commands.specs.Commands.{command_count, no_command, command_table, command_of, name_of, seek, verb_of, words_most}

-- a test holds of every row
unfoldable every : (Command → Bool) → List Command → Bool
every f [] = true
every f (r ∷ rows) = both (f r) (every f rows)

each_row : (f : Command → Bool) (rows : List Command) (d : Command) → every f rows ≡ true → f d ≡ true → (i : ℕ)
    → f (get_or rows i d) ≡ true
unfolding every
each_row f [] d e h i = h
each_row f (r ∷ rows) d e h zero = both_l (f r) (every f rows) e
each_row f (r ∷ rows) d e h (suc i) = each_row f rows d (both_r (f r) (every f rows) e) h i

-- within the table it does not matter what stands past its end
pub any_default : (rows : List Command) (i : ℕ) (d e : Command) → i < length rows → get_or rows i d ≡ get_or rows i e
any_default [] i d e h = absurd (omega arith)
any_default (r ∷ rows) zero d e h = refl
any_default (r ∷ rows) (suc i) d e h = any_default rows i d e (omega arith)

inside : (i : ℕ) → i < command_count → i < length command_table
unfolding command_table
inside i h = h

-- what a lent row at a place, or else the row of no command, is
pub lent_row : (c : ℕ) (r : Option (Bor Command)) → IsItemAt command_table c r
    → unwrap_or (option_copied r) no_command ≡ command_of c
unfolding command_of
lent_row c r h = search rules

-- no command takes more words than a share
pub most_few : (c : ℕ) → (command_of c).most ≤ words_most
unfolding command_of command_table every
most_few c = leb-true _ _ (each_row (λ (r : Command). leb r.most words_most) command_table _ refl refl c)

-- every word has its room
pub word_room : (c : ℕ) → length (command_of c).word ≡ 8
unfolding command_of command_table every text
word_room c = eqb-true _ _ (each_row (λ (r : Command). eqb (length r.word) 8) command_table _ refl refl c)

-- the bytes of a row's word up to the first space are its name
pub name_is : (r d : Command) (end : ℕ) → r ≡ d → end ≡ run_end Word r.word 0 → take end r.word ≡ name_of d
unfolding name_of run_end
name_is r d end e f =
    let n : end ≡ run Word r.word = omega (arith, f) in
    ap (λ (m : ℕ). take m r.word) n ∙ ap (λ (q : Command). take (run Word q.word) q.word) e

pub name_fits : (r : Command) (c end : ℕ) → r ≡ command_of c → end ≡ run_end Word r.word 0 → end ≤ length r.word
name_fits r c end e f = omega (arith, f, run_end_high Word r.word 0 (omega arith))

-- the search over the rows from the i-th on: none behind the last, and one row more
pub sought_none : (w : List ℕ) → 0 ≡ seek w command_count (drop command_count command_table)
unfolding seek command_table
sought_none w = refl

pub sought_on : (w : List ℕ) (i found r : ℕ) → i < command_count → found ≡ seek w (suc i) (drop (suc i) command_table)
    → r ≡ pick (same w (name_of (command_of i))) i found → r ≡ seek w i (drop i command_table)
unfolding seek command_of
sought_on w i found r h e f = rw (drop-cons command_table i no_command (inside i h), ← e) f

-- the same from a place that is not the first back to the one before it, and at the first
pub sought_back : (w : List ℕ) (left found r : ℕ) → 0 < left → left ≤ command_count → found ≡ seek w left (drop left command_table)
    → r ≡ pick (same w (name_of (command_of (left - 1)))) (left - 1) found
    → r ≡ seek w (left - 1) (drop (left - 1) command_table)
sought_back w zero found r h m e f = absurd (omega arith)
sought_back w (suc i) found r h m e f =
    let one : suc i - 1 ≡ i = omega arith in
    rw one (sought_on w i found r (omega arith) e (rw one at f))

pub sought_all : (w : List ℕ) (left found : ℕ) → left ≤ 0 → found ≡ seek (lowered w) left (drop left command_table) → found ≡ verb_of w
unfolding verb_of
sought_all w zero found h e = e
sought_all w (suc i) found h e = absurd (omega arith)
