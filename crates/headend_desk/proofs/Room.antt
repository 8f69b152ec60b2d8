-- Room for one line more: what `has_room` tests, and that with it the rows hold all that the line writes.
use Prim.Native.Nat.{ℕ, ◌+◌, ◌-◌, ◌<◌, ◌≤◌}
use mathlib.Core.Path.{◌≡◌, refl, sym, ap, ◌∙◌}
use mathlib.Core.Bool.{Bool, true, false}
use mathlib.Core.List.{List, [], ◌++◌}
use native.Mathlib.Omega.{arith}
use borrow.Author.Tests.{le-leb, lt-leb, leb-true}
use lib.Dec.{eqb, leb}
use lib.ListN.{length, take, drop, length-append}
use lib.Seq.{length-take-le, take_at}
use Rattle.rules.specs.Refusals.{pick, done}
use Rattle.rules.proofs.Tests.{both_l, both_r, both_none, same}
use Rattle.notice_fields.specs.Fields.{longest_notice}
use Rattle.notice_fields.proofs.Digits.{length_big}
use Rattle.notice.proofs.Worked.{open_length, none_longer}
use Rattle.sums.specs.Crc.{sum_of, sum_size}
use Rattle.agent.specs.declared.Agent.{Agent}
use Rattle.text.specs.Output.{Page, page, Written}
use Rattle.text.proofs.Pages.{puts_fits, puts_length}
use Rattle.console_lines.specs.Lines.{meaning}
use Rattle.console_acts.specs.Events.{event_in}
use Rattle.headend_desk.specs.declared.Desk.{Desk}
use Rattle.headend_desk.specs.Desk.{room_left, is_event_line, head_answer, next_bytes, event_notice, event_sum, head_notice}
use Rattle.headend_desk.specs.Desk.{head_sum, Replies}

-- ---- the ways out of `has_room`

module _ (noticed notices summed sums : ℕ) where
  pub no_notices : notices < noticed + 45 → false ≡ room_left noticed notices summed sums
  no_notices h = rw (open_length, lt-leb (noticed + 45) notices h) refl

  pub no_sums : sums < summed + sum_size → false ≡ room_left noticed notices summed sums
  no_sums h = rw (lt-leb (summed + sum_size) sums h) (sym (both_none (leb (noticed + longest_notice) notices)))

  pub by_sums : noticed + 45 ≤ notices → summed ≤ sums → leb sum_size (sums - summed) ≡ room_left noticed notices summed sums
  by_sums h low =
      rw (open_length, le-leb (noticed + 45) notices h)
      (same (leb sum_size (sums - summed)) (leb (summed + sum_size) sums)
      (λ x. le-leb (summed + sum_size) sums (omega (arith, leb-true sum_size (sums - summed) x)))
      (λ x. le-leb sum_size (sums - summed) (omega (arith, leb-true (summed + sum_size) sums x))))

-- ---- what fits is written

-- a text was written whole behind what a row had up to a place
pub record Behind (before : List ℕ) (at : ℕ) (text after : List ℕ) (behind : ℕ) : Type 0 where
  pub row : take behind after ≡ take at before ++ text
  pub place : behind ≡ at + length text
  pub size : length after ≡ length before

whole_behind : (before : List ℕ) (at : ℕ) (text after : List ℕ) (behind : ℕ) → at + length text ≤ length before →
    Written before at text after behind → Behind before at text after behind
whole_behind before at text after behind fits is =
    let put : page after behind ≡ page (take at before ++ text ++ drop (at + length text) before) (at + length text) =
    is ∙ puts_fits text before at fits in
    let row : after ≡ take at before ++ text ++ drop (at + length text) before = ap (λ (p : Page). p.row) put in
    let place : behind ≡ at + length text = ap (λ (p : Page). p.at) put in
    let long : length (take at before ++ text) ≡ at + length text =
    length-append (take at before) text ∙ ap (λ (n : ℕ). n + length text) (length-take-le at before (omega arith)) in
    record {
      row = rw (row, place) (take_at (take at before ++ text) (drop (at + length text) before) (at + length text) long);
      place = place;
      size = ap (λ (p : Page). length p.row) is ∙ puts_length text (page before at);
    }

-- a line writes no more than the longest notice, and one sum
short : (t u : Bool) (xs : List ℕ) (most : ℕ) → length xs ≤ most → length (pick t (pick u xs []) []) ≤ most
short true true xs most h = h
short true false xs most h = omega arith
short false u xs most h = omega arith

notice_short : (g : Agent) (s : List ℕ) → length (head_notice g s) ≤ longest_notice
unfolding head_notice event_notice
notice_short g s =
    short (is_event_line s) (eqb (head_answer g (event_in (meaning s))) done) (next_bytes g (event_in (meaning s))) longest_notice (none_longer _)

sum_short : (g : Agent) (s : List ℕ) → length (head_sum g s) ≤ sum_size
unfolding head_sum event_sum
sum_short g s =
    short (is_event_line s) (eqb (head_answer g (event_in (meaning s))) done) _ sum_size
    (omega (arith, length_big sum_size (sum_of (next_bytes g (event_in (meaning s))))))

module _ (d : Desk) (s out notices sums : List ℕ) (after : Desk) (out' notices' sums' : List ℕ)
    (room : room_left d.noticed (length notices) d.summed (length sums) ≡ true)
    (left : Replies d s out notices sums after out' notices' sums') where
  for_notice : d.noticed + longest_notice ≤ length notices
  for_notice = leb-true _ _ (both_l (leb (d.noticed + longest_notice) (length notices)) (leb (d.summed + sum_size) (length sums)) room)

  for_sum : d.summed + sum_size ≤ length sums
  for_sum = leb-true _ _ (both_r (leb (d.noticed + longest_notice) (length notices)) (leb (d.summed + sum_size) (length sums)) room)

  pub rows_hold : Behind notices d.noticed (head_notice d.agent s) notices' after.noticed
      × Behind sums d.summed (head_sum d.agent s) sums' after.summed
  rows_hold =
      let notice = notice_short d.agent s in
      let sum = sum_short d.agent s in (
        whole_behind notices d.noticed _ notices' after.noticed (omega (arith, notice, for_notice)) left.noticed,
        whole_behind sums d.summed _ sums' after.summed (omega (arith, sum, for_sum)) left.summed,
      )
