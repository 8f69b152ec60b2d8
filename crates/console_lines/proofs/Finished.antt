-- Every line is read to its end: what it means is never "not read yet". Each word that is taken leaves less room for
-- further words.
use Prim.Native.Nat.{ℕ, zero, suc, ◌+◌, ◌-◌, ◌%◌, ◌<◌, ◌≤◌}
use mathlib.Core.Path.{◌≡◌, refl}
use mathlib.Core.Bool.{Bool, true, false}
use mathlib.Core.List.{List}
use native.Mathlib.Omega.{arith}
use borrow.Author.Tests.{leb-false, leb-true, eqb-true, eqb-false, ne_eqb}
use lib.ListN.{drop}
use lib.Dec.{eqb, leb, ltb}
use Rattle.rules.specs.Limits.{both, either, within}
use Rattle.rules.specs.Refusals.{pick}
use Rattle.text.specs.declared.bytes.Sort.TheVariants.{Separator, Word, Digit, Hex}
use Rattle.text.specs.Bytes.{run_end}
use Rattle.text.specs.Numbers.{amount, too_large}
use Rattle.clocks.specs.Clocks.{has_colon, is_clock, clock_ms}
use Rattle.console_commands.specs.Commands
use Rattle.rules.proofs.Tests.{both_l, both_r, either_false}
use Rattle.console_commands.proofs.Rows.{most_few}
use Rattle.console_lines.specs.declared.lines.Line.{Line}
use Rattle.console_lines.specs.Lines.{
  with_fault,
  line_ended,
  go_on,
  with_amount,
  with_digits,
  word_at,
  with_clock,
  with_number,
  with_act,
  with_kind,
  with_hex,
  with_word,
  line_ends_at,
  step,
  begun,
  read_on,
  numbers_most,
  meaning,
}

-- ---- room for further words

-- a word that is no number may follow: a write's kind, the event of a when
abbrev waits : ℕ → Bool
waits c = either (eqb c Commands.do_write) (eqb c Commands.do_when)

-- how many words a line may still have, such a word counted for one
unfoldable room : Line → ℕ
room l = (Commands.words_most - l.count) + pick (waits l.command) 1 0

pub pick_case : {A : Type 0} (P : A → Type 0) (t : Bool) (a b : A) → (t ≡ true → P a) → (t ≡ false → P b) → P (pick t a b)
pick_case P true a b f g = f refl
pick_case P false a b f g = g refl

-- a line that is still to be read has less room than l
abbrev Falls : Line → Line → Type 0
Falls l m = m.fault ≡ Commands.unread → suc (room m) ≤ room l

-- ---- a fault ends the reading

-- a fault is not "not read yet"
abbrev known : ℕ → Type 0
known f = f ≡ Commands.unread → ⊥

stops : (l : Line) (f p : ℕ) → known f → Falls l (with_fault l f p)
unfolding with_fault
stops l f p h = λ u. absurd (h u)

crowded_known : (c : ℕ) → known (Commands.crowded c)
unfolding Commands.crowded
crowded_known c =
    pick_case known (eqb c Commands.do_status) _ _ (λ e u. omega arith)
    (λ e. pick_case known (eqb c Commands.do_share) _ _ (λ e u. omega arith) (λ e u. omega arith))

oversized_known : (c : ℕ) → known (Commands.oversized c)
unfolding Commands.oversized
oversized_known c = pick_case known (Commands.asks_plan c) _ _ (λ e u. omega arith) (λ e u. omega arith)

few : (c : ℕ) → Commands.most_of c ≤ Commands.words_most
unfolding Commands.most_of
few c = most_few c

-- ---- each word takes room

-- a number takes one word
amount_falls : (l : Line) (a e v : ℕ) → l.count < Commands.most_of l.command → Falls l (with_amount l a e v)
unfolding with_amount go_on room
amount_falls l a e v h =
    pick_case (Falls l) (too_large (Commands.limit_of l.command l.count) v) _ _
    (λ q. stops l (Commands.oversized l.command) a (oversized_known l.command))
    (λ q u. omega (arith, few l.command))

digits_falls : (s : List ℕ) (l : Line) (a e : ℕ) → l.count < Commands.most_of l.command → Falls l (with_digits s l a e)
unfolding with_digits
digits_falls s l a e h =
    pick_case (Falls l) (ltb (run_end Digit s a) e) _ _
    (λ t. stops l Commands.not_number (run_end Digit s a) (λ u. omega arith))
    (λ t. amount_falls l a e (amount 0 (drop a s)) h)

clock_falls : (w : List ℕ) (l : Line) (a e : ℕ) → l.count < Commands.most_of l.command → Falls l (with_clock w l a e)
unfolding with_clock
clock_falls w l a e h =
    pick_case (Falls l) (is_clock w) _ _ (λ t. amount_falls l a e (clock_ms w) h)
    (λ t. stops l Commands.not_time a (λ u. omega arith))

number_falls : (s : List ℕ) (l : Line) (a e : ℕ) → l.count < Commands.most_of l.command
    → Falls l (with_number s l a e)
unfolding with_number
number_falls s l a e h =
    pick_case (Falls l) (both (Commands.is_timed l.command l.count) (has_colon (word_at s a))) _ _
    (λ t. clock_falls (word_at s a) l a e h) (λ t. digits_falls s l a e h)

-- HEX is the one word of its command
hex_falls : (s : List ℕ) (l : Line) (a e : ℕ) → l.count < 1 → Falls l (with_hex s l a e)
unfolding with_hex room
hex_falls s l a e h =
    pick_case (Falls l) (ltb (run_end Hex s a) e) _ _ (λ t. stops l Commands.bad_hex (run_end Hex s a) (λ u. omega arith))
    (λ t. pick_case (Falls l) (eqb ((e - a) % 2) 1) _ _ (λ q. stops l Commands.odd_hex a (λ u. omega arith))
    (λ q u. omega arith))

-- a command at which such a word is awaited becomes one at which none is
turned : (c d n : ℕ) → waits c ≡ true → waits d ≡ false → suc (n + pick (waits d) 1 0) ≤ n + pick (waits c) 1 0
turned c d n h g = rw (h, g) (omega arith)

-- those from the first kind of a write on, and from the first event of a when on
kind_known : (v : ℕ) → 2 ≤ v → v ≤ Commands.do_skip → waits (Commands.do_write + v) ≡ false
kind_known v h g =
    either_false (eqb (Commands.do_write + v) Commands.do_write) (eqb (Commands.do_write + v) Commands.do_when)
    (ne_eqb _ _ (λ q. let z : Commands.do_write + v ≡ Commands.do_write = q in omega arith))
    (ne_eqb _ _ (λ q. let z : Commands.do_write + v ≡ Commands.do_when = q in omega arith))

act_known : (v : ℕ) → waits (Commands.when_close + v) ≡ false
act_known v =
    either_false (eqb (Commands.when_close + v) Commands.do_write) (eqb (Commands.when_close + v) Commands.do_when)
    (ne_eqb _ _ (λ q. let z : Commands.when_close + v ≡ Commands.do_write = q in omega arith))
    (ne_eqb _ _ (λ q. let z : Commands.when_close + v ≡ Commands.do_when = q in omega arith))

-- the kind makes a write one of the commands that are no write without kind
kind_falls : (w : List ℕ) (l : Line) (a e : ℕ) → l.command ≡ Commands.do_write → Falls l (with_kind w l a e)
unfolding with_kind room
kind_falls w l a e h =
    pick_case (Falls l) (within Commands.do_open Commands.do_skip (Commands.verb_of w)) _ _
    (λ t u. turned l.command (Commands.do_write + Commands.verb_of w) (Commands.words_most - l.count) (rw h)
    (kind_known (Commands.verb_of w)
    (leb-true _ _ (both_l (leb Commands.do_open (Commands.verb_of w)) (leb (Commands.verb_of w) Commands.do_skip) t))
    (leb-true _ _ (both_r (leb Commands.do_open (Commands.verb_of w)) (leb (Commands.verb_of w) Commands.do_skip) t))))
    (λ t. stops l Commands.unknown_word a (λ u. omega arith))

-- the event makes a when one of the commands that are no when without event
act_falls : (s : List ℕ) (l : Line) (a e : ℕ) → l.command ≡ Commands.do_when → l.count < Commands.most_of l.command
    → Falls l (with_act s l a e)
unfolding with_act room
act_falls s l a e h m =
    pick_case (Falls l) (within Commands.do_close Commands.do_lift (Commands.verb_of (word_at s a))) _ _
    (λ t u. turned l.command (Commands.when_close + (Commands.verb_of (word_at s a) - Commands.do_close))
    (Commands.words_most - l.count) (rw h) (act_known (Commands.verb_of (word_at s a) - Commands.do_close)))
    (λ t. number_falls s l a e m)

hex_one : (c : ℕ) → Commands.takes_hex c ≡ true → Commands.most_of c ≡ 1
unfolding Commands.takes_hex Commands.most_of Commands.command_of Commands.command_table
hex_one c e = by_read (eqb c Commands.do_read) refl where
  by_read : (t : Bool) → eqb c Commands.do_read ≡ t → Commands.most_of c ≡ 1
  by_read true q = rw (eqb-true c Commands.do_read q)
  by_read false q = rw (eqb-true c Commands.do_notice (rw q at e))

pub kind_write : (c n : ℕ) → Commands.takes_kind c n ≡ true → c ≡ Commands.do_write
unfolding Commands.takes_kind
kind_write c n k = eqb-true c Commands.do_write (both_l (eqb c Commands.do_write) (eqb n 1) k)

pub act_when : (c n : ℕ) → Commands.takes_act c n ≡ true → c ≡ Commands.do_when
unfolding Commands.takes_act
act_when c n k = eqb-true c Commands.do_when (both_l (eqb c Commands.do_when) (eqb n 2) k)

word_falls : (s : List ℕ) (l : Line) (a : ℕ) → Falls l (with_word s l a)
unfolding with_word
word_falls s l a =
    pick_case (Falls l) (leb (Commands.most_of l.command) l.count) _ _
    (λ t. stops l (Commands.crowded l.command) a (crowded_known l.command))
    (λ t. let h : l.count < Commands.most_of l.command = leb-false _ _ t in
    pick_case (Falls l) (Commands.takes_hex l.command) _ _
    (λ q. hex_falls s l a (run_end Word s a) (omega (arith, hex_one l.command q)))
    (λ q. pick_case (Falls l) (Commands.takes_kind l.command l.count) _ _
    (λ k. kind_falls (word_at s a) l a (run_end Word s a) (kind_write l.command l.count k))
    (λ k. pick_case (Falls l) (Commands.takes_act l.command l.count) _ _
    (λ j. act_falls s l a (run_end Word s a) (act_when l.command l.count j) h)
    (λ j. number_falls s l a (run_end Word s a) h))))

step_falls : (s : List ℕ) (l : Line) → Falls l (step s l)
unfolding step line_ended
step_falls s l =
    pick_case (Falls l) (line_ends_at s (run_end Separator s l.place)) _ _
    (λ t. stops l _ (run_end Separator s l.place)
    (pick_case known (Commands.enough l.command l.count) _ _ (λ q u. omega arith) (λ q u. omega arith)))
    (λ t. word_falls s l (run_end Separator s l.place))

-- ---- so the reading ends

after : (n : ℕ) (s : List ℕ) (l : Line) (t : Bool) → eqb l.fault Commands.unread ≡ t
    → (l.fault ≡ Commands.unread → room l < suc n)
    → (((step s l).fault ≡ Commands.unread → room (step s l) < n) → (read_on n s (step s l)).fault ≡ Commands.unread
    → ⊥)
    → (pick t (read_on n s (step s l)) l).fault ≡ Commands.unread → ⊥
after n s l true e h more =
    more (λ u. let full : room l < suc n = h (eqb-true _ _ e) in let less : suc
    (room (step s l)) ≤ room l = step_falls s l u in omega arith)
after n s l false e h more = eqb-false _ _ e

read_through : (n : ℕ) (s : List ℕ) (l : Line) → (l.fault ≡ Commands.unread → room l < n)
    → (read_on n s l).fault ≡ Commands.unread → ⊥
unfolding read_on
read_through zero s l h = λ u. let none : room l < 0 = h u in omega arith
read_through (suc n) s l h = after n s l (eqb l.fault Commands.unread) refl h (read_through n s (step s l))

one_more : (t : Bool) → pick t 1 0 ≤ 1
one_more true = omega arith
one_more false = omega arith

small : (l : Line) → room l < numbers_most
unfolding room
small l =
    let k : pick (waits l.command) 1 0 ≤ 1 = one_more (waits l.command) in omega arith

-- the reader's answer is a whole line or a fault of it
pub finished : (s : List ℕ) → (meaning s).fault ≡ Commands.unread → ⊥
unfolding meaning
finished s = read_through numbers_most s (begun s) (λ u. small (begun s))
