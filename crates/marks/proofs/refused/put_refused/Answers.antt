-- `marks::refused::put_refused` meets its contract: the mark where it is new, else nothing.
use Rattle.text.specs.Texts.{text}
use Rattle.text.proofs.Pages.{then}
use Rattle.marks.specs.Marks.{refused_mark}
use Rattle.strips.proofs.Marked.{new_mark, old_mark}
use Rattle.marks.proofs.refused.put_refused.Goals as goal

pub returns-then-claim : goal.returns-then-claim
unfolding text refused_mark
returns-then-claim c =
    record {
      written = new_mark _ _ _ c.claim.ensures.0 c.if-claim.true
          (rw (← c.area_at.ensures) (then (then c.put_rect.ensures c.put_notice.ensures) c.put_rect_end.ensures));
      kept_after = c.claim.ensures.1;
    }

pub returns-else-claim : goal.returns-else-claim
unfolding refused_mark
returns-else-claim c =
    record { written = old_mark _ _ _ c.claim.ensures.0 c.if-claim.false; kept_after = c.claim.ensures.1 }
