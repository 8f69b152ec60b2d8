-- `console_pools::beside::put_beside` meets its contract: of the four rows, the places passed are written.
use Rattle.text.proofs.Pages.{then}
use Rattle.console_answers.proofs.Rows.{each_none, each_more}
use Rattle.console_pools.specs.Beside.{beside_at}
use Rattle.console_pools.proofs.beside.put_beside.Goals as goal

pub loop-i-init : goal.loop-i-init
loop-i-init c = each_none _

pub loop-i-preserved : goal.loop-i-preserved
unfolding beside_at
loop-i-preserved c =
    each_more _ _ c.loop-i.invariant
    (then (then (then c.put_at.ensures c.put_at-in-loop-i.ensures) c.put_at-in-loop-i-2.ensures) c.put_at-in-loop-i-3.ensures)
