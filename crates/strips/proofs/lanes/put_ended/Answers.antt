-- `strips::lanes::put_ended` meets its contract: drawn where there is a stretch that is new in its row.
use mathlib.Core.Path.{refl}
use Rattle.text.proofs.Pages.{nothing}
use Rattle.strips.specs.Lanes.{ended_text, ended_kept}
use Rattle.strips.specs.Kept.{drawn_to}
use Rattle.strips.proofs.Marked.{new_mark, old_mark}
use Rattle.strips.proofs.lanes.put_ended.Goals as goal

pub returns-then-claim : goal.returns-then-claim
unfolding ended_text ended_kept drawn_to
returns-then-claim c =
    rw (c.in-Some.is, ← c.kept_in-j.ensures.is, ← c.end-right.ensures.is, ← c.place.ensures.is, ← c.max-left.ensures)
    record { written = new_mark _ _ _ c.claim.ensures.0 c.if-claim.true c.put_strip.ensures; kept_after = c.claim.ensures.1 }

pub returns-else-claim : goal.returns-else-claim
unfolding ended_text ended_kept drawn_to
returns-else-claim c =
    rw (c.in-Some.is, ← c.kept_in-j.ensures.is, ← c.end-right.ensures.is)
    record { written = old_mark _ _ _ c.claim.ensures.0 c.if-claim.false; kept_after = c.claim.ensures.1 }

pub returns-in_default : goal.returns-in_default
unfolding ended_text ended_kept
returns-in_default c = rw c.in_default.is record { written = nothing; kept_after = refl }
