-- `verifies` meets its contract: each way out has decided its tests.
use Prim.Native.Nat.{◌+◌}
use mathlib.Core.Path.{sym, ◌∙◌}
use native.Mathlib.Omega.{arith}
use lib.ListN.{length}
use borrow.Author.Tests.{leb-true}
use Rattle.journal_records.proofs.Standing.{none_short, none_headed, none_whole, by_sum}
use Rattle.journal_records.proofs.records.verifies.Goals as goal

pub is_headed-requires : goal.is_headed-requires
is_headed-requires c =
    let a = c.args in
    omega (arith, leb-true (a.at + 15) (length a.bytes.now) (sym c.has_room.ensures ∙ c.if-has_room.true))

pub size_at-size-requires : goal.size_at-size-requires
size_at-size-requires c =
    let there = c in
    let a = there.args in
    omega (arith, leb-true (a.at + 15) (length a.bytes.now) (sym there.has_room.ensures ∙ there.if-has_room.true))

pub has_sum-requires : goal.has_sum-requires
has_sum-requires c =
    let size = c in
    let a = size.args in
    omega (arith, leb-true (a.at + (15 + size.size_at-size.result)) (length a.bytes.now) (sym c.has_room-then-is_headed.ensures ∙ c.if-has_room-2.true))

pub returns-then-has_room-2 : goal.returns-then-has_room-2
returns-then-has_room-2 c =
    let whole = c in
    let size = whole in
    let headed = size in
    let there = headed in
    by_sum _ _ _ (sym there.has_room.ensures ∙ there.if-has_room.true) (sym headed.is_headed.ensures ∙ headed.if-is_headed.true)
    size.size_at-size.result size.size_at-size.ensures.0 (sym whole.has_room-then-is_headed.ensures ∙ whole.if-has_room-2.true) _ c.has_sum.ensures

pub returns-else-has_room-2 : goal.returns-else-has_room-2
returns-else-has_room-2 c =
    let size = c in
    let headed = size in
    let there = headed in
    none_whole _ _ _ (sym there.has_room.ensures ∙ there.if-has_room.true) (sym headed.is_headed.ensures ∙ headed.if-is_headed.true)
    size.size_at-size.result size.size_at-size.ensures.0 (sym c.has_room-then-is_headed.ensures ∙ c.if-has_room-2.false)

pub returns-else-is_headed : goal.returns-else-is_headed
returns-else-is_headed c =
    let there = c in
    none_headed _ _ _ (sym there.has_room.ensures ∙ there.if-has_room.true) (sym c.is_headed.ensures ∙ c.if-is_headed.false)

pub returns-else-has_room : goal.returns-else-has_room
returns-else-has_room c = none_short _ _ _ (sym c.has_room.ensures ∙ c.if-has_room.false)
