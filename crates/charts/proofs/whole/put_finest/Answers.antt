-- `charts::whole::put_finest` meets its contract: wider columns are tried while the picture has no room.
use mathlib.Core.Path.{refl, sym}
use native.Mathlib.Omega.{arith}
use Rattle.charts.proofs.Fitting.{begins, tries_on, found_room, found_last}
use Rattle.charts.proofs.whole.put_finest.Goals as goal

pub loop-tried-init : goal.loop-tried-init
loop-tried-init c = begins _ _ _ _ _ _ (sym c.put_fresh-end.auto.out) c.put_fresh-end.ensures refl

pub loop-tried-preserved : goal.loop-tried-preserved
loop-tried-preserved c =
    tries_on _ _ _ _ _ _ _ _ c.loop-tried.invariant c.if-end-out.false (omega arith) _ (omega arith) _ c.coarser-grain.ensures _ _
    c.put_fresh-end-in-loop-tried.ensures c.put_fresh-end-in-loop-tried.auto.out

pub returns-then-end-out : goal.returns-then-end-out
returns-then-end-out c = found_room _ _ _ _ _ _ _ _ c.loop-tried.invariant _ c.put_fresh-end.auto.out c.if-end-out.true

pub returns : goal.returns
returns c = found_last _ _ _ _ _ _ _ _ c.loop-tried.invariant _ c.put_fresh-end.auto.out (omega arith)
