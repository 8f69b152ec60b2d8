-- `window::can_be` meets its contract, by whether the byte is there.
use Prim.Native.Nat.{◌+◌, ◌≤◌, ◌<◌}
use lib.ListN.{length}
use native.Mathlib.Omega.{arith}
use borrow.Author.Tests.{le-leb, lt-leb}
use Rattle.notice_bytes.specs.Window.{can_be}
use Rattle.notice_bytes.proofs.window.can_be.Goals as goal

pub returns-then-left-far : goal.returns-then-left-far
unfolding can_be
returns-then-left-far c =
    let a = c.args in
    let over : length a.bytes.now ≤ a.place + a.far = omega arith in
    rw (le-leb _ _ c.if-left-far.true, le-leb _ _ over)

pub returns-else-left-far : goal.returns-else-left-far
unfolding can_be
returns-else-left-far c =
    let a = c.args in
    let there : a.place + a.far < length a.bytes.now = omega arith in
    rw (lt-leb _ _ there)
