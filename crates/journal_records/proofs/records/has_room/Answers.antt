-- `has_room` meets its contract: each way out decides the test.
use Prim.Native.Nat.{◌+◌, ◌-◌}
use mathlib.Core.Path.{sym}
use native.Mathlib.Omega.{arith}
use borrow.Author.Tests.{lt-leb}
use Rattle.notice_fields.proofs.Each.{same_order}
use Rattle.journal_records.proofs.records.has_room.Goals as goal

pub returns-then-length-size : goal.returns-then-length-size
returns-then-length-size c = let a = c.args in sym (lt-leb (a.at + a.size) a.length (omega arith))

pub returns : goal.returns
returns c =
    let a = c.args in
    same_order a.at (a.length - a.size) (a.at + a.size) a.length (λ le. omega arith) (λ lt. omega arith)
