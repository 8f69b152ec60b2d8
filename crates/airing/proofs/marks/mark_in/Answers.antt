-- `airing::marks::mark_in` meets its contract: whether the title admits boxes, and whether the tick is a slot start.
use Rattle.airing.specs.inner.Steps.{mark_in}
use Rattle.airing.proofs.marks.mark_in.Goals.{else-admitting-via-then-admitting+else-starts, else-admitting-via-else-admitting}
use Rattle.airing.proofs.marks.mark_in.Goals as goal

pub returns-then-starts : goal.returns-then-starts
unfolding mark_in
returns-then-starts c = simp (← c.admitting.ensures, c.if-admitting.true, ← c.starts.ensures, c.if-starts.true)

pub returns-else-admitting : goal.returns-else-admitting
unfolding mark_in
returns-else-admitting c =
    elim c.else-admitting.branch [
      | else-admitting-via-then-admitting+else-starts w ↦ simp (← c.admitting.ensures, w.if-admitting.true, ← w.starts.ensures, w.if-starts.false)
      | else-admitting-via-else-admitting w ↦ simp (← c.admitting.ensures, w.if-admitting.false)
    ]
