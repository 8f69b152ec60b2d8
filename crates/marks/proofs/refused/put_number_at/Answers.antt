-- `marks::refused::put_number_at` meets its contract: the number where its row has room, else nothing.
use Rattle.text.specs.Texts.{text}
use Rattle.text.proofs.Pages.{then}
use Rattle.marks.specs.Marks.{refused_label}
use Rattle.strips.proofs.Marked.{new_mark, old_mark}
use Rattle.marks.proofs.refused.put_number_at.Goals as goal

pub returns-then-claim : goal.returns-then-claim
unfolding text refused_label
returns-then-claim c =
    record {
      written = new_mark _ _ _ c.claim.ensures.0 c.if-claim.true (then (then c.put_label.ensures c.put_number.ensures) c.put_label_end.ensures);
      kept_after = c.claim.ensures.1;
    }

pub returns-else-claim : goal.returns-else-claim
unfolding refused_label
returns-else-claim c =
    record { written = old_mark _ _ _ c.claim.ensures.0 c.if-claim.false; kept_after = c.claim.ensures.1 }
