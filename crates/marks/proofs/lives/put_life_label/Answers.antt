-- `marks::lives::put_life_label` meets its contract: the label where it has room, else nothing.
use Rattle.marks.specs.Marks.{life_label_text}
use Rattle.strips.proofs.Marked.{new_mark, old_mark}
use Rattle.marks.proofs.lives.put_life_label.Goals as goal

pub returns-then-claim : goal.returns-then-claim
unfolding life_label_text
returns-then-claim c =
    rw (← c.kept_in-j.ensures.is, ← c.place-x.ensures.is)
    record { written = new_mark _ _ _ c.claim.ensures.0 c.if-claim.true c.put_film.ensures; kept_after = c.claim.ensures.1 }

pub returns-else-claim : goal.returns-else-claim
unfolding life_label_text
returns-else-claim c =
    rw (← c.kept_in-j.ensures.is, ← c.place-x.ensures.is) record { written = old_mark _ _ _ c.claim.ensures.0 c.if-claim.false; kept_after = c.claim.ensures.1 }
