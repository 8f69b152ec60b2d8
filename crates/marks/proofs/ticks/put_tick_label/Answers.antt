-- `marks::ticks::put_tick_label` meets its contract: the label where it has room, else nothing.
use Rattle.text.specs.Texts.{text}
use Rattle.text.proofs.Pages.{then}
use Rattle.marks.specs.Marks.{tick_label_text}
use Rattle.strips.proofs.Marked.{new_mark, old_mark}
use Rattle.marks.proofs.ticks.put_tick_label.Goals as goal

pub returns-then-claim : goal.returns-then-claim
unfolding text tick_label_text
returns-then-claim c =
    rw (← c.kept_in-j.ensures.is, ← c.place-x.ensures.is) record {
      written = new_mark _ _ _ c.claim.ensures.0 c.if-claim.true (then (then c.put_label.ensures c.put_kind.ensures) c.put_label_end.ensures);
      kept_after = c.claim.ensures.1;
    }

pub returns-else-claim : goal.returns-else-claim
unfolding tick_label_text
returns-else-claim c =
    rw (← c.kept_in-j.ensures.is, ← c.place-x.ensures.is) record { written = old_mark _ _ _ c.claim.ensures.0 c.if-claim.false; kept_after = c.claim.ensures.1 }
