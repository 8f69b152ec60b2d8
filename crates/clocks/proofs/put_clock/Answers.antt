-- `clocks::put_clock` meets its contract: its parts are written one behind the other.
use mathlib.Core.List.{append-nil}
use borrow.Author.Tests.{eq-eqb, ne_eqb}
use Rattle.text.proofs.Pages.{then}
use Rattle.clocks.specs.Clocks.{clock_text}
use Rattle.clocks.proofs.put_clock.Goals as goal

pub returns-then-left-ne0 : goal.returns-then-left-ne0
unfolding clock_text
returns-then-left-ne0 c =
    rw (ne_eqb _ _ c.if-left-ne0.true)
    (then (then (then c.put_number.ensures c.put_part.ensures) c.put_part-2.ensures) c.put_thousandths.ensures)

pub returns-else-left-ne0 : goal.returns-else-left-ne0
unfolding clock_text
returns-else-left-ne0 c =
    rw (eq-eqb _ _ c.if-left-ne0.false, append-nil) (then (then c.put_number.ensures c.put_part.ensures) c.put_part-2.ensures)
