-- `marks::ticks::put_tick` meets its contract: the mark where it is new, else nothing.
use Rattle.text.specs.Texts.{text}
use Rattle.text.proofs.Pages.{then}
use Rattle.marks.specs.Marks.{tick_text}
use Rattle.strips.proofs.Marked.{new_mark, old_mark}
use Rattle.marks.proofs.ticks.put_tick.Goals as goal

pub returns-then-claim : goal.returns-then-claim
unfolding text tick_text
returns-then-claim c =
    rw (← c.kept_in-j.ensures.is, ← c.place-x.ensures.is, ← c.end-right.ensures.is, ← c.kind_number.ensures) record {
      written = new_mark _ _ _ c.claim.ensures.0 c.if-claim.true (then (then c.put_rect.ensures c.put_notice.ensures) c.put_rect_end.ensures);
      kept_after = c.claim.ensures.1;
    }

pub returns-else-claim : goal.returns-else-claim
unfolding tick_text
returns-else-claim c =
    rw (← c.kept_in-j.ensures.is, ← c.end-right.ensures.is) record { written = old_mark _ _ _ c.claim.ensures.0 c.if-claim.false; kept_after = c.claim.ensures.1 }
