-- `note` meets its contract: each way out decides its one test.
use borrow.Author.Tests.{lt-ltb, le-ltb}
use Rattle.rom.specs.Plan.{noted_once as noted_of}
use Rattle.rom.proofs.plan.note.Goals as goal

pub returns-then-place-lt-CELLS : goal.returns-then-place-lt-CELLS
unfolding noted_of
returns-then-place-lt-CELLS c = simp (lt-ltb _ _ c.if-place-lt-CELLS.true)

pub returns-else-place-lt-CELLS : goal.returns-else-place-lt-CELLS
unfolding noted_of
returns-else-place-lt-CELLS c = simp (le-ltb _ _ c.if-place-lt-CELLS.false)
