-- `record_at` meets its contract: where a record stands, what is read of it.
use mathlib.Core.Path.{sym, ◌∙◌}
use native.Mathlib.Omega.{arith}
use Rattle.journal_records.specs.Records.{found_at}
use Rattle.journal_records.proofs.Standing.{Verified, verified}
use Rattle.journal_records.proofs.records.record_at.Tie as tie
use Rattle.journal_records.proofs.records.record_at.Lts as lts
use Rattle.journal_records.proofs.records.record_at.Reads as reads
use Rattle.journal_records.proofs.records.record_at.Goals as goal

stands : (c : lts.Else1 tie.the-claims reads.Pre reads.Post) → let a = c.args in Verified a.identity.now a.bytes.now a.at
stands c = verified _ _ _ (sym c.verifies.ensures ∙ c.if-not-verifies.false)

pub get-number-requires : goal.get-number-requires
get-number-requires c = (omega (arith, (stands c.before).there), omega arith)

pub overflow_add-at : goal.overflow_add-at
overflow_add-at c = omega (arith, (stands c.before.before).there)

pub get-kind-requires : goal.get-kind-requires
get-kind-requires c = (omega (arith, (stands c.before.before).there), omega arith)

pub size_at-size-requires : goal.size_at-size-requires
size_at-size-requires c = omega (arith, (stands c.before.before.before).there)

pub returns : goal.returns
unfolding found_at
returns c =
    let kind = c in
    let number = kind in
    let there = number in
    rw (sym there.verifies.ensures ∙ there.if-not-verifies.false, number.get-number.ensures.0, kind.get-kind.ensures.0, c.size_at-size.ensures.0)

pub returns-then-not-verifies : goal.returns-then-not-verifies
unfolding found_at
returns-then-not-verifies c = rw (sym c.verifies.ensures ∙ c.if-not-verifies.true)
