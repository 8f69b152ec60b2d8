-- `begun` meets its contract, by the test of the sums that are missing.
use borrow.Author.Tests.{lt-ltb, le-ltb}
use Rattle.journals.proofs.begun.Goals.{then-journal-gt0+then-not-there, else-journal-gt0, else-journal-gt0-via-then-journal-gt0+else-not-there, else-journal-gt0-via-else-journal-gt0}
use Rattle.journals.proofs.begun.Goals as goal

pub returns : goal.returns
returns c =
    elim c.if-journal-gt0.branch [
      | then-journal-gt0+then-not-there w ↦ rw (w.verdict-is, lt-ltb _ _ w.if-journal-gt0.true, w.if-not-there.true)
      | else-journal-gt0 w ↦
          elim w.else-journal-gt0.branch [
            | else-journal-gt0-via-then-journal-gt0+else-not-there v ↦ rw (w.verdict-is, lt-ltb _ _ v.if-journal-gt0.true, v.if-not-there.false)
            | else-journal-gt0-via-else-journal-gt0 v ↦ rw (w.verdict-is, le-ltb _ _ v.if-journal-gt0.false)
          ]
    ]
