-- `playouts::follow::step` meets its contract, by whether the read was an accepted event of the title.
use mathlib.Core.Path.{◌≡◌}
use Rattle.story.specs.Kept.{open_mode}
use Rattle.measures.specs.Readable.{Sending}
use Rattle.logs.proofs.Own.{of_before, steps_own, steps_past}
use Rattle.playouts.proofs.follow.step.Goals as goal

pub settle-requires : goal.settle-requires
settle-requires c = let at_read = c in
    let start = at_read in record { sending = of_before (λ t. t.mode ≡ open_mode → Sending t) _ _ _ _ _ _ at_read.read_for-read.ensures start.requires.ready_to_fill.sending; row_to_fill = start.requires.row_to_fill }

pub returns-then-read : goal.returns-then-read
returns-then-read c =
    let at_own = c in
    steps_own _ _ _ _ _ _ _ _ at_own.read_for-read.ensures _ at_own.if-read.true c.settle.ensures

pub returns : goal.returns
returns c = steps_past _ _ _ _ _ _ _ _ c.read_for-read.ensures c.if-read.false
