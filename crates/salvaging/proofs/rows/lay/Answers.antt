-- `salvaging::rows::lay` meets its contract: what was taken, and the stretch that ended before it.
use mathlib.Core.Path.{refl}
use Rattle.salvaging.proofs.Laying.{lays_taken, lays_none}
use borrow.Author.Rules.{rules}
use Rattle.salvaging.proofs.rows.lay.Goals as goal

pub returns-then-p-next : goal.returns-then-p-next
returns-then-p-next c = lays_taken _ _ _ _ _ _ _ _ _ c.put_taken-at.ensures _ c.if-p-next.true c.put_ended-cells.ensures

pub returns-else-p-next : goal.returns-else-p-next
returns-else-p-next c = lays_none _ _ _ _ _ _ _ _ _ c.put_taken-at.ensures c.if-p-next.false refl
