-- `playouts::lines::put_behind` meets its contract: the end of a line behind the last lane.
use borrow.Author.Tests.{eq-eqb, ne_eqb}
use Rattle.text.specs.Texts.{text}
use Rattle.playouts.specs.Lines.{behind_place}
use Rattle.playouts.proofs.lines.put_behind.Goals as goal

pub returns-then-j-eq-LANE_MAX : goal.returns-then-j-eq-LANE_MAX
unfolding behind_place text
returns-then-j-eq-LANE_MAX c = rw (eq-eqb _ _ c.if-j-eq-LANE_MAX.true) c.put.ensures

pub returns-else-j-eq-LANE_MAX : goal.returns-else-j-eq-LANE_MAX
unfolding behind_place text
returns-else-j-eq-LANE_MAX c = rw (ne_eqb _ _ c.if-j-eq-LANE_MAX.false) c.put-else-j-eq-LANE_MAX.ensures
