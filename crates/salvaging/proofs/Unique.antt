-- Two outcomes that the contract of a public call admits for the same arguments are equal. The contracts are cited as the checker
-- has them: `Learnt` is all that a caller learns of a call.
use mathlib.Core.Path.{◌≡◌, sym, ◌∙◌}
use Rattle.rules.specs.OneOutcome.{OneEnd}
use Rattle.salvaging.proofs.salvage.Kinds as salvage-kinds
use Rattle.salvaging.proofs.salvage.Reads as salvage

-- the counts, the area and the row; these are parameters 1 and 2, from 0
pub salvage_one_outcome :
    OneEnd 3 salvage-kinds.ps salvage-kinds.r
    (λ κs e f. (e.1.0.now ≡ f.1.0.now) × (e.1.1.0.now ≡ f.1.1.0.now)) salvage.Learnt
salvage_one_outcome κs a x y e f p q =
    (p.gives ∙ sym q.gives, (p.area_is ∙ sym q.area_is, p.row_is ∙ sym q.row_is))
