-- `playouts::lines::put_numbers` meets its contract: place by place.
use native.Mathlib.Nat.{le_antisymm}
use mathlib.Core.Path.{ap}
use native.Mathlib.Omega.{arith}
use lib.ListN.{get_or}
use Rattle.text.proofs.Pages.{told_as}
use Rattle.playouts.specs.Lines.{number_lines}
use Rattle.playouts.proofs.Printed.{lines_none, lines_next}
use Rattle.playouts.proofs.lines.put_numbers.Goals as goal

pub loop-j-init : goal.loop-j-init
loop-j-init c = lines_none _ _

pub loop-j-preserved : goal.loop-j-preserved
loop-j-preserved c = lines_next _ _ c.loop-j.j _ _ _ c.loop-j.invariant c.put_carried.ensures c.put_behind.ensures

pub returns : goal.returns
returns c =
    let all = le_antisymm (omega arith) c.loop-j-test.false in
    told_as (ap (number_lines (λ j. get_or c.args.numbers.now j 0)) all) c.loop-j.invariant
