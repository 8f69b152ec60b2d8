-- `fields::carried` meets its contract: the bit of the row below kind 8, and no bit from there on.
use mathlib.Core.Path.{sym}
use borrow.Author.Tests.{le-ltb}
use Rattle.notice_fields.proofs.Table.{no_bit}
use Rattle.notice_fields.proofs.fields.carried.Goals as goal

pub returns-then-kind-lt8 : goal.returns-then-kind-lt8
returns-then-kind-lt8 c = rw c.entry-f.ensures

pub returns-else-kind-lt8 : goal.returns-else-kind-lt8
returns-else-kind-lt8 c = rw (le-ltb _ _ c.if-kind-lt8.false) (sym (no_bit _ _ c.requires c.if-kind-lt8.false))
