-- A notice taken in place leaves the row of the agent that took it: of every agent whose arrays have their lengths and whose sequence fits.
-- Rests on `packed` and `unpacked` being each other's inverse.
use mathlib.Core.Path.{◌≡◌, refl, ap, ◌∙◌}
use mathlib.Core.Bool.{Bool, true, false}
use Prim.Native.Nat.{suc, ◌<◌}
use lib.Dec.{eqb}
use borrow.Author.Tests.{eq-eqb, lt-ltb}
use Rattle.rules.specs.Refusals.{pick, outside_limits, out_of_turn}
use Rattle.notice.specs.declared.Reading.{Reading}
use Rattle.notice.specs.declared.Reading.TheVariants as reading
use Rattle.story.specs.Runs.{answered}
use Rattle.agent.specs.declared.Agent.{Agent}
use Rattle.agent.specs.Turns.{event_of, notice_answer, noticed}
use Rattle.agent_rows.specs.Layout.{sequence_end}
use Rattle.agent_rows.specs.Packed.{packed, unpacked, row_sound, WholeAgent}
use Rattle.agent_rows.proofs.Inverse.{unpacked_packed}
use Rattle.row_calls.specs.Answers.{row_reading, row_notice, row_after_notice}
use Rattle.row_snapshots.proofs.Small.{row_length_lem}

module _ (g : Agent) (w : WholeAgent g) (fits : g.sequence < sequence_end) where
  sound : row_sound (packed g) ≡ true
  sound = lt-ltb g.sequence sequence_end fits

  -- the answer is the agent's
  reading_same : (q : Reading) → row_reading (packed g) q ≡ notice_answer g q
  unfolding row_reading notice_answer
  reading_same (reading.Whole n) =
      ap (λ (b : Bool). pick (eqb n.sequence (suc g.sequence)) (pick b (answered (unpacked (packed g)).state (event_of n)) outside_limits) out_of_turn) sound
      ∙ ap (λ (h : Agent). pick (eqb n.sequence (suc g.sequence)) (answered h.state (event_of n)) out_of_turn) (unpacked_packed g w)
  reading_same reading.Malformed = refl

  answer_same : (q : Reading) → row_notice (packed g) q ≡ notice_answer g q
  unfolding row_notice
  answer_same q = rw (eq-eqb _ _ (row_length_lem g w)) (reading_same q)

  chosen : (b : Bool) (q : Reading) → b ≡ eqb (notice_answer g q) 0 → pick b (packed (noticed g q)) (packed g) ≡ packed (noticed g q)
  chosen true q e = refl
  chosen false q e = rw (← e)

  -- and so is the row that it leaves
  pub taken_in_place : (q : Reading) → row_after_notice (packed g) q ≡ packed (noticed g q)
  unfolding row_after_notice
  taken_in_place q =
      rw (answer_same q, unpacked_packed g w) (chosen (eqb (notice_answer g q) 0) q refl)
