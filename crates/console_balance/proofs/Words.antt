-- One number of a line, printed in decimal behind a space: the reader takes it as the next number of its command, for every command that
-- has a number of any size there.
-- Rests on the laws of printed numbers.
use Prim.Native.Nat.{ℕ, suc, ◌+◌, ◌-◌, ◌<◌, ◌≤◌}
use mathlib.Core.Path.{◌≡◌, refl, sym, ap, ◌∙◌}
use mathlib.Core.Bool.{false}
use mathlib.Core.List.{List, [], ◌∷◌, ◌++◌}
use native.Mathlib.Omega.{arith}
use borrow.Author.Tests.{lt-ltb, le-ltb, lt-leb, ne_eqb}
use lib.ListN.{length, get_or, drop, length-append, length-drop}
use lib.Seq.{drop-drop, drop-cons, take-append_seam, drop-append_seam}
use Rattle.rules.proofs.Tests.{both_none}
use Rattle.text.specs.declared.bytes.Sort.TheVariants.{Separator, Word, Digit}
use Rattle.text.specs.Bytes.{is_sort, run, run_end}
use Rattle.text.specs.Numbers.{top, amount, too_large}
use Rattle.text.specs.Digits.{decimal}
use Rattle.console_commands.specs.Commands
use Rattle.console_lines.specs.declared.lines.Line.{Line}
use Rattle.console_lines.specs.Lines.{go_on, with_amount, with_digits, word_at, with_number, with_word, hash, line_ends_at, step}
use Rattle.console_balance.proofs.Printed.{word_over, digits_over, no_separator, no_colon, first_byte, amount_there}
use Rattle.clocks.proofs.Hours.{decimal_some}

-- what may follow a number in a line: nothing, or a space and more
pub data Ends : List ℕ → Type 0 where
  at_end : Ends []
  at_space : {t : List ℕ} → Ends (32 ∷ t)

word_ends : (t : List ℕ) → Ends t → run Word t ≡ 0
unfolding run is_sort
word_ends t at_end = refl
word_ends t at_space = refl

digits_end : (t : List ℕ) → Ends t → run Digit t ≡ 0
unfolding run is_sort
digits_end t at_end = refl
digits_end t at_space = refl

amount_ends : (n : ℕ) (t : List ℕ) → Ends t → amount n t ≡ n
unfolding amount
amount_ends n t at_end = refl
amount_ends n t at_space = refl

-- a command that takes a number of any size next
pub record TakesAny (c k : ℕ) : Type 0 where
  pub more : k < Commands.most_of c
  pub no_hex : Commands.takes_hex c ≡ false
  pub no_kind : Commands.takes_kind c k ≡ false
  pub no_act : Commands.takes_act c k ≡ false
  pub no_limit : Commands.limit_of c k ≡ Commands.any

module _ (s : List ℕ) (l : Line) (n : ℕ) (t : List ℕ) (here : drop l.place s ≡ 32 ∷ (decimal n ++ t)) (ends : Ends t)
    (small : n ≤ top) (takes : TakesAny l.command l.count) where
  abbrev a : ℕ
  a = l.place + 1

  -- the word begins behind the space,
  begins : run_end Separator s l.place ≡ a
  unfolding run_end run is_sort
  begins = rw (here, no_separator n t) refl

  pub behind : drop a s ≡ decimal n ++ t
  behind = sym (drop-drop 1 l.place s) ∙ ap (drop 1) here

  within : a < length s
  within =
      let some : 0 < length (decimal n) = decimal_some n in
      omega (arith, length-append (decimal n) t, length-drop a s, ap length behind)

  -- is a number and nothing else,
  word_end : run_end Word s a ≡ a + length (decimal n)
  unfolding run_end
  word_end = rw (behind, word_over n t, word_ends t ends) (omega arith)

  digit_end : run_end Digit s a ≡ a + length (decimal n)
  unfolding run_end
  digit_end = rw (behind, digits_over n t, digits_end t ends) (omega arith)

  word : word_at s a ≡ decimal n
  unfolding word_at
  word =
      let e : (a + length (decimal n)) - a ≡ length (decimal n) = omega arith in
      rw (word_end, e, behind) (take-append_seam (decimal n) t)

  -- and no remark
  not_ended : line_ends_at s a ≡ false
  unfolding line_ends_at
  not_ended =
      let first : get_or s a 0 ≡ hash → ⊥ = first_byte n t (get_or s a 0) (drop (suc a) s) (sym behind ∙ drop-cons s a 0 within) in
      rw (lt-ltb _ _ within, ne_eqb _ _ first) refl

  number : with_number s l a (a + length (decimal n)) ≡ go_on l n (a + length (decimal n))
  unfolding with_number with_digits with_amount too_large
  number =
      let same : a + length (decimal n) ≤ a + length (decimal n) = omega arith in
      rw (word, no_colon n, both_none (Commands.is_timed l.command l.count), digit_end, le-ltb _ _ same, takes.no_limit, behind)
      (ap (λ (v : ℕ). go_on l v (a + length (decimal n))) (amount_there n t small (amount_ends n t ends)))

  pub taken : step s l ≡ go_on l n (a + length (decimal n))
  unfolding step with_word
  taken =
      rw (begins, not_ended, lt-leb _ _ takes.more, takes.no_hex, takes.no_kind, takes.no_act, word_end) number

  -- what is left of the line
  pub rest : drop (a + length (decimal n)) s ≡ t
  rest = sym (drop-drop (length (decimal n)) a s) ∙ rw behind (drop-append_seam (decimal n) t)
