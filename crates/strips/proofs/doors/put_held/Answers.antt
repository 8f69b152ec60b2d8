-- `strips::doors::put_held` meets its contract: the strip where it is new, else nothing.
use Rattle.text.specs.Texts.{text}
use Rattle.text.proofs.Pages.{then}
use Rattle.strips.specs.Doors.{held_text}
use Rattle.strips.proofs.Marked.{new_mark, old_mark}
use Rattle.strips.proofs.doors.put_held.Goals as goal

pub returns-then-claim : goal.returns-then-claim
unfolding text held_text
returns-then-claim c =
    rw (← c.kept_in-j.ensures.is, ← c.place-x.ensures.is, ← c.end-right.ensures.is, ← c.since.ensures) record {
      written =
          new_mark _ _ _ c.claim.ensures.0 c.if-claim.true
          (then (then (then (then (then c.put_rect.ensures c.put.ensures) c.put_clock.ensures) c.put-then-claim.ensures) c.put_clock-then-claim.ensures) c.put_rect_end.ensures);
      kept_after = c.claim.ensures.1;
    }

pub returns-else-claim : goal.returns-else-claim
unfolding held_text
returns-else-claim c =
    rw (← c.kept_in-j.ensures.is, ← c.end-right.ensures.is)
    record { written = old_mark _ _ _ c.claim.ensures.0 c.if-claim.false; kept_after = c.claim.ensures.1 }
