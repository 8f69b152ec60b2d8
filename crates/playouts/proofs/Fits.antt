-- Every text fits into the room that the program prints through, so that none of it is left out: at most 4,096 lines of twelve numbers, or
-- a refusal's one line. Rests on how long a number is.
use mathlib.Core.Path.{◌≡◌}
use mathlib.Core.Bool.{Bool, true, false, not}
use mathlib.Core.Logic.{⊎_elim}
use mathlib.Core.List.{List}
use Prim.Native.Nat.{ℕ, zero, suc, ◌*◌, ◌%◌, ◌≤◌}
use native.Mathlib.Omega.{arith}
use lib.Dec.{eqb}
use lib.ListN.{length, take, length-append}
use borrow.Author.Tests.{eqb-true}
use Rattle.rules.specs.Limits.{lane_max, lane_places}
use Rattle.rules.specs.Refusals.{pick, first_hit, done, outside_limits, malformed, not_there}
use Rattle.rules.proofs.Tests.{decide}
use Rattle.text.specs.Texts.{text}
use Rattle.text.specs.Digits.{digits, decimal}
use Rattle.text.specs.Output.{Written}
use Rattle.text.proofs.Printing.{decimal_short}
use Rattle.text.proofs.Pages.{stands}
use Rattle.words.specs.Words.{refusal_text, meaning_text, naming_words, refusal_words}
use Rattle.notice.specs.Log.{is_whole_log}
use Rattle.agent.specs.Played.{life_in}
use Rattle.judging.specs.Record.{nothing_seen}
use Rattle.playouts.specs.Playout.{playout_limits, was_opened, last_tick_of, is_askable, playout_answer, playout_number}
use Rattle.playouts.specs.Lines.{carried_text, behind_place, place_line, number_lines, refused_line, playout_text, playout_room}
use Rattle.playouts.proofs.Answers.{ticks_high, granted}

-- ---- a number and what stands behind it

carried_length : (n : ℕ) → length (carried_text n) ≤ 20
unfolding carried_text text
carried_length n =
    ⊎_elim (λ x. rw x (omega arith)) (λ x. rw x (omega (arith, decimal_short n))) (decide (eqb n nothing_seen))

behind_length : (j : ℕ) → length (behind_place j) ≤ 1
unfolding behind_place text
behind_length j = ⊎_elim (λ x. rw x (omega arith)) (λ x. rw x (omega arith)) (decide (eqb (j % lane_places) lane_max))

lines_length : (f : ℕ → ℕ) (n : ℕ) → length (number_lines f n) ≤ n * 21
unfolding number_lines place_line
lines_length f zero = omega arith
lines_length f (suc j) =
    omega (
      arith,
      length-append (number_lines f j) (place_line f j),
      length-append (carried_text (f j)) (behind_place j),
      carried_length (f j),
      behind_length j,
      lines_length f j,
    )

-- ---- the text

module _ (pool : ℕ) (log : List ℕ) (title from ticks : ℕ) where
  abbrev answer : ℕ
  answer = playout_answer pool log title from ticks

  refused_length : length (refused_line answer) ≤ 120
  unfolding refused_line playout_answer first_hit refusal_text meaning_text naming_words refusal_words decimal digits text
  refused_length =
      go (not (playout_limits pool title from ticks)) (not (is_whole_log log)) (not (was_opened (life_in pool log title)))
      (not (is_askable (life_in pool log title) (last_tick_of from ticks)))
    where
      go : (a b c d : Bool) →
          length (refused_line (pick a outside_limits (pick b malformed (pick c not_there (pick d outside_limits done))))) ≤ 120
      go true b c d = omega arith
      go false true c d = omega arith
      go false false true d = omega arith
      go false false false true = omega arith
      go false false false false = omega arith

  pub text_fits : length (playout_text pool log title from ticks) ≤ playout_room
  unfolding playout_text
  text_fits =
      ⊎_elim
      (λ x. rw x (omega (arith, ticks_high pool title from ticks (granted pool log title from ticks (eqb-true answer done x)).limits, lines_length (playout_number pool log title from) (ticks * lane_places))))
      (λ x. rw x (omega (arith, refused_length)))
      (decide (eqb answer done))

  -- so what is written of the room is the whole text
  pub text_whole : (out after : List ℕ) (size : ℕ) → length out ≡ playout_room → Written out 0 (playout_text pool log title from ticks) after size →
      take size after ≡ playout_text pool log title from ticks
  text_whole out after size room is =
      (stands (playout_text pool log title from ticks) out after size is (omega (arith, text_fits))).whole
