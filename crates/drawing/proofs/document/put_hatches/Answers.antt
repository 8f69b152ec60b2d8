-- `drawing::document::put_hatches` meets its contract: id by id.
use Rattle.drawing.proofs.Hatches.{hatches_none, hatches_next}
use Rattle.drawing.proofs.document.put_hatches.Goals as goal

pub loop-id-init : goal.loop-id-init
loop-id-init c = hatches_none

pub loop-id-preserved : goal.loop-id-preserved
loop-id-preserved c = hatches_next c.loop-id.id c.loop-id.invariant c.put_hatch.ensures
