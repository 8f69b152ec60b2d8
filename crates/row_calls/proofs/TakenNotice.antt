-- A notice on a row that was tested leaves the row of the agent that took it. Rests on what a notice leaves of any row, and on its sequence
-- fitting 32 bits.
use mathlib.Core.Path.{◌≡◌, ap, ◌∙◌}
use mathlib.Core.Logic.{⊎_elim}
use mathlib.Core.List.{List}
use Prim.Native.Nat.{ℕ, ◌<◌}
use lib.Dec.{ltb, eqb}
use lib.ListN.{length, get_or}
use borrow.Author.Tests.{lt-ltb, ltb-true}
use Rattle.rules.proofs.Tests.{decide, both_r}
use Rattle.notice.specs.declared.Notice.{Notice}
use Rattle.notice.specs.declared.Reading.TheVariants as reading
use Rattle.agent.specs.Turns.{notice_answer, noticed}
use Rattle.agent_rows.specs.Layout.{row_version, sequence_end, version_at, sequence_at, row_length}
use Rattle.agent_rows.specs.Packed.{packed, unpacked}
use Rattle.row_calls.specs.inner.Steps.{Tested, TakesNotice}
use Rattle.row_calls.proofs.Heeded.{Heeds}
use Rattle.row_calls.proofs.Follows.{noticed_as_agent}
use Rattle.row_calls.proofs.Whole.{agent_after_notice}

module _ (r : List ℕ) (tested : Tested r) (n : Notice) (small : n.sequence < sequence_end) where
  -- the sequence is the notice's, or the row's
  fits : (noticed (unpacked r) (reading.Whole n)).sequence < sequence_end
  fits =
      let old : get_or r sequence_at 0 < sequence_end =
      ltb-true (get_or r sequence_at 0) sequence_end (both_r (eqb (get_or r version_at 0) row_version) (ltb (get_or r sequence_at 0) sequence_end) tested.sound) in
      ⊎_elim (λ z. rw z small) (λ no. rw no old) (decide (eqb (notice_answer (unpacked r) (reading.Whole n)) 0))

  pub takes_notice : (a : ℕ) (x : List ℕ) → Heeds r (reading.Whole n) a x → length x ≡ row_length → TakesNotice r n a x
  takes_notice a x is long =
      let agent = noticed_as_agent r tested.long tested.sound (reading.Whole n) in
      let left : x ≡ packed (noticed (unpacked r) (reading.Whole n)) = is.1 ∙ agent.1 in
      record {
        answers = is.0 ∙ agent.0;
        agent_is = ap unpacked is.1 ∙ agent_after_notice r tested.long tested.sound (reading.Whole n);
        is_row = record { long = long; sound = rw left (lt-ltb (noticed (unpacked r) (reading.Whole n)).sequence sequence_end fits) };
      }
