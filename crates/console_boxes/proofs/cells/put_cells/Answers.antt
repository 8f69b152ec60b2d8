-- `console_boxes::cells::put_cells` meets its contract: of the plan, the cells passed are written.
use Prim.Native.Nat.{◌<◌}
use native.Mathlib.Omega.{arith}
use lib.ListN.{length-take}
use lib.Seq.{get_or-take}
use Rattle.console_answers.proofs.Rows.{each_none, each_more}
use Rattle.console_boxes.proofs.cells.put_cells.Goals as goal

pub loop-cell-init : goal.loop-cell-init
loop-cell-init c = each_none _

pub loop-cell-preserved : goal.loop-cell-preserved
loop-cell-preserved c =
    let i = c.loop-cell.cell-index in
    let among : i < c.args.n = omega (arith, simp length-take at c.loop-cell-test.true) in
    each_more _ _ c.loop-cell.invariant (rw (get_or-take c.args.n c.args.row.now i 0 among) at c.put_cell.ensures)
