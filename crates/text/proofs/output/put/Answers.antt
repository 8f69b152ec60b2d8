-- `text::output::put` meets its contract: what has room stands in the row, and what has none changes nothing.
use native.Mathlib.Omega.{arith}
use Rattle.text.proofs.Pages.{puts_full, puts_room}
use Rattle.text.proofs.output.put.Goals as goal

pub returns-then-out-at : goal.returns-then-out-at
returns-then-out-at c = puts_full _ _ _ (omega arith)

pub returns : goal.returns
returns c =
    puts_room _ _ _ _ _ _ (omega arith) c.min-n.ensures (c.lay.ensures) (omega arith)
