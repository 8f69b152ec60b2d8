-- The contract of status settles answer and rows: two outcomes that it admits are equal. The contract is not stated again: `Learnt` is all
-- that the checker lets a caller learn of a call. Rests on the contract being equations to definitions.
use mathlib.Core.Path.{◌≡◌, sym, ◌∙◌}
use Rattle.rules.specs.OneOutcome.{OneEnd}
use Rattle.status.proofs.status.Kinds as status-kinds
use Rattle.status.proofs.status.Reads as status-call

-- the rows of counts, of lanes held and of marks, parameters 3 to 5, from 0
pub status_one_outcome :
    OneEnd 4 status-kinds.ps status-kinds.r
    (λ κs e f. (e.1.1.1.0.now ≡ f.1.1.1.0.now)
    × ((e.1.1.1.1.0.now ≡ f.1.1.1.1.0.now) × (e.1.1.1.1.1.0.now ≡ f.1.1.1.1.1.0.now)))
    status-call.Learnt
status_one_outcome κs a x y e f p q =
    let same : x ≡ y = p.0 ∙ sym q.0 in (
      same,
      (
        rw same at p.1.0 ∙ sym q.1.0,
        (rw same at p.1.1.0 ∙ sym q.1.1.0, rw same at p.1.1.1 ∙ sym q.1.1.1),
      ),
    )
