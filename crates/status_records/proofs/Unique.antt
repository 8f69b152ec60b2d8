-- The contract of `records` settles answer and row: two outcomes that it admits are equal. The contract is not stated again: `Learnt` is
-- all that the checker lets a caller learn of a call. Rests on the contract being equations to definitions.
use mathlib.Core.Path.{◌≡◌, sym, ◌∙◌}
use Rattle.rules.specs.OneOutcome.{OneEnd}
use Rattle.status_records.proofs.records.Kinds as records-kinds
use Rattle.status_records.proofs.records.Reads as records-call

-- the answer, and every record of the row, parameter 2, from 0
pub records_one_outcome :
    OneEnd 1 records-kinds.ps records-kinds.r (λ κs e f. e.1.1.0.now ≡ f.1.1.0.now) records-call.Learnt
records_one_outcome κs a x y e f p q =
    let same : x ≡ y = p.0 ∙ sym q.0 in (same, rw same at p.1 ∙ sym q.1)
