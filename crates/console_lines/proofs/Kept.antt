-- The first word of a line decides its command: a word that follows changes it only from a write into one of its kinds, and from a when into
-- one of its events. So what holds of the command of the first word, and stays when it is changed so, holds of the line's. Rests on the
-- reading of a line, word by word.
use Prim.Native.Nat.{ℕ, zero, suc, ◌+◌, ◌-◌, ◌%◌, ◌≤◌}
use mathlib.Core.Path.{◌≡◌}
use mathlib.Core.List.{List}
use borrow.Author.Tests.{leb-true}
use lib.ListN.{drop}
use lib.Dec.{eqb, leb, ltb}
use Rattle.rules.specs.Limits.{both, within}
use Rattle.rules.proofs.Tests.{both_l, both_r}
use Rattle.text.specs.declared.bytes.Sort.TheVariants.{Separator, Word, Digit, Hex}
use Rattle.text.specs.Bytes.{run_end}
use Rattle.text.specs.Numbers.{amount, too_large}
use Rattle.clocks.specs.Clocks.{has_colon, is_clock, clock_ms}
use Rattle.console_commands.specs.Commands
use Rattle.console_lines.specs.declared.lines.Line.{Line}
use Rattle.console_lines.specs.Lines.{
  with_fault,
  line_ended,
  go_on,
  with_amount,
  with_digits,
  word_at,
  with_clock,
  with_number,
  with_act,
  with_kind,
  with_hex,
  with_word,
  line_ends_at,
  step,
  begun,
  read_on,
  numbers_most,
  meaning,
}
use Rattle.console_lines.proofs.Finished.{pick_case, kind_write, act_when}

module _ (P : ℕ → Type 0)
    (written : (v : ℕ) → Commands.do_open ≤ v → v ≤ Commands.do_skip → P Commands.do_write → P (Commands.do_write + v))
    (asked : (v : ℕ) → Commands.do_close ≤ v → v ≤ Commands.do_lift → P Commands.do_when → P (Commands.when_close + (v - Commands.do_close))) where
  -- it holds of a line's command
  abbrev Of : Line → Type 0
  Of l = P l.command

  amount_keeps : (l : Line) (a e v : ℕ) → Of l → Of (with_amount l a e v)
  unfolding with_amount with_fault go_on
  amount_keeps l a e v h =
      pick_case Of (too_large (Commands.limit_of l.command l.count) v) _ _ (λ t. h) (λ t. h)

  number_keeps : (s : List ℕ) (l : Line) (a e : ℕ) → Of l → Of (with_number s l a e)
  unfolding with_number with_clock with_digits with_fault
  number_keeps s l a e h =
      pick_case Of (both (Commands.is_timed l.command l.count) (has_colon (word_at s a))) _ _
      (λ t. pick_case Of (is_clock (word_at s a)) _ _ (λ q. amount_keeps l a e (clock_ms (word_at s a)) h) (λ q. h))
      (λ t. pick_case Of (ltb (run_end Digit s a) e) _ _ (λ q. h) (λ q. amount_keeps l a e (amount 0 (drop a s)) h))

  hex_keeps : (s : List ℕ) (l : Line) (a e : ℕ) → Of l → Of (with_hex s l a e)
  unfolding with_hex with_fault
  hex_keeps s l a e h =
      pick_case Of (ltb (run_end Hex s a) e) _ _ (λ t. h) (λ t. pick_case Of (eqb ((e - a) % 2) 1) _ _ (λ q. h) (λ q. h))

  kind_keeps : (w : List ℕ) (l : Line) (a e : ℕ) → l.command ≡ Commands.do_write → Of l → Of (with_kind w l a e)
  unfolding with_kind with_fault
  kind_keeps w l a e q h =
      let v = Commands.verb_of w in
      pick_case Of (within Commands.do_open Commands.do_skip v) _ _
      (λ t. written v (leb-true _ _ (both_l (leb Commands.do_open v) (leb v Commands.do_skip) t))
      (leb-true _ _ (both_r (leb Commands.do_open v) (leb v Commands.do_skip) t)) (rw q at h))
      (λ t. h)

  act_keeps : (s : List ℕ) (l : Line) (a e : ℕ) → l.command ≡ Commands.do_when → Of l → Of (with_act s l a e)
  unfolding with_act
  act_keeps s l a e q h =
      let v = Commands.verb_of (word_at s a) in
      pick_case Of (within Commands.do_close Commands.do_lift v) _ _
      (λ t. asked v (leb-true _ _ (both_l (leb Commands.do_close v) (leb v Commands.do_lift) t))
      (leb-true _ _ (both_r (leb Commands.do_close v) (leb v Commands.do_lift) t)) (rw q at h))
      (λ t. number_keeps s l a e h)

  word_keeps : (s : List ℕ) (l : Line) (a : ℕ) → Of l → Of (with_word s l a)
  unfolding with_word with_fault
  word_keeps s l a h =
      let c = l.command in
      let e = run_end Word s a in
      pick_case Of (leb (Commands.most_of c) l.count) _ _ (λ t. h)
      (λ t. pick_case Of (Commands.takes_hex c) _ _ (λ q. hex_keeps s l a e h)
      (λ q. pick_case Of (Commands.takes_kind c l.count) _ _
      (λ k. kind_keeps (word_at s a) l a e (kind_write c l.count k) h)
      (λ k. pick_case Of (Commands.takes_act c l.count) _ _ (λ j. act_keeps s l a e (act_when c l.count j) h)
      (λ j. number_keeps s l a e h))))

  step_keeps : (s : List ℕ) (l : Line) → Of l → Of (step s l)
  unfolding step line_ended with_fault
  step_keeps s l h =
      pick_case Of (line_ends_at s (run_end Separator s l.place)) _ _ (λ t. h)
      (λ t. word_keeps s l (run_end Separator s l.place) h)

  read_keeps : (n : ℕ) (s : List ℕ) (l : Line) → Of l → Of (read_on n s l)
  unfolding read_on
  read_keeps zero s l h = h
  read_keeps (suc n) s l h =
      pick_case Of (eqb l.fault Commands.unread) _ _ (λ t. read_keeps n s (step s l) (step_keeps s l h)) (λ t. h)

  pub first_decides : (s : List ℕ) → Of (begun s) → Of (meaning s)
  unfolding meaning
  first_decides s h = read_keeps numbers_most s (begun s) h
