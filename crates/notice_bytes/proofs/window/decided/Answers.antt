-- `window::decided` meets its contract, by its tests.
use Rattle.notice_bytes.specs.Window.{is_decided}
use Rattle.notice_bytes.proofs.window.decided.Goals as goal

pub returns-then-over : goal.returns-then-over
unfolding is_decided
returns-then-over c = rw c.if-over.true

pub returns-else-over : goal.returns-else-over
unfolding is_decided
returns-else-over c = rw (c.if-over.false, ← c.beginning.ensures)
