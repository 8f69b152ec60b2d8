-- `text::feed::compact` meets its contract: nothing moves where the places are no part of the buffer, and the part moves as one.
use native.Mathlib.Omega.{arith}
use Rattle.text.proofs.Moving.{moved_none, moved_empty, moved_all}
use Rattle.text.proofs.feed.compact.Goals as goal
use Rattle.text.proofs.feed.compact.Goals.{then-buffer-to-via-then-buffer-to, then-buffer-to-via-else-buffer-to+then-to-from}

pub returns-then-buffer-to : goal.returns-then-buffer-to
returns-then-buffer-to c =
    elim c.then-buffer-to.branch [
      | then-buffer-to-via-then-buffer-to w ↦ moved_none _ _ _ (omega arith)
      | then-buffer-to-via-else-buffer-to+then-to-from w ↦ moved_empty _ _ _ (omega arith) (omega arith)
    ]

pub returns : goal.returns
returns c = rw c.copy_within.ensures.after (moved_all _ _ _ (omega arith))
