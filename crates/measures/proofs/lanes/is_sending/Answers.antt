-- `is_sending` meets its contract: the difference is compared, so that no sum can wrap.
use mathlib.Core.Path.{sym, ◌∙◌}
use Prim.Native.Nat.{◌+◌}
use native.Mathlib.Omega.{arith}
use lib.ListN.{get_or}
use borrow.Author.Tests.{lt-ltb}
use Rattle.measures.proofs.Compared.{sub_ltb}
use Rattle.measures.proofs.lanes.is_sending.Goals as goal

pub returns-then-tick-from : goal.returns-then-tick-from
returns-then-tick-from c =
    let a = c.args in
    let from = get_or a.t.dropped a.lane 0 in
    lt-ltb a.tick from (omega arith) ∙ sym (lt-ltb a.tick (from + get_or a.t.owed a.lane 0) (omega arith))

pub returns-else-tick-from : goal.returns-else-tick-from
returns-else-tick-from c = sub_ltb _ _ _ c.if-tick-from.false
