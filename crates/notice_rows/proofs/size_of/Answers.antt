-- `size_of` meets its contract: the table's length of a kind that it could have a bit for, and no byte of any other.
use mathlib.Core.Path.{sym}
use native.Mathlib.Omega.{arith}
use Rattle.notice_fields.proofs.Table.{no_bit}
use Rattle.notice_rows.proofs.Widths.{needs_none}
use Rattle.notice_rows.proofs.size_of.Goals as goal

pub returns : goal.returns
returns c = sym (needs_none _ (no_bit _ 0 (omega arith) c.if-kind-lt-KIND_BITS.false))
