-- The planner's contract settles answer, number of events and rows: two outcomes that it admits are equal. Rests on its record
-- of equations.
use mathlib.Core.Path.{◌≡◌, sym, ap₂, ◌∙◌}
use Prim.Native.Nat.{ℕ}
use Rattle.rules.specs.OneOutcome.{OneEnd}
use Rattle.planner.proofs.planner.Kinds as planner-kinds
use Rattle.planner.proofs.planner.Reads as planner-call

-- the rows of ids, of times and of counts, parameters 3 to 5, from 0
pub one_outcome :
    OneEnd 4 planner-kinds.ps planner-kinds.r
    (λ κs e f.
    (e.1.1.1.0.now ≡ f.1.1.1.0.now)
    × ((e.1.1.1.1.0.now ≡ f.1.1.1.1.0.now) × (e.1.1.1.1.1.0.now ≡ f.1.1.1.1.1.0.now)))
    planner-call.Learnt
one_outcome κs a x y e f p q =
    let same : x ≡ y =
    ap₂ (λ (r n : ℕ). record { answer = r; many = n }) (p.answer ∙ sym q.answer) (p.many ∙ sym q.many) in
    (same, (p.ids ∙ sym q.ids, (p.times ∙ sym q.times, p.counts ∙ sym q.counts)))
