-- The contracts of the questions of a lent row settle answer and every row: two outcomes that one admits are equal. Rests on their equations.
use Prim.Native.Nat.{ℕ}
use mathlib.Core.Path.{◌≡◌, sym, ap₂, ◌∙◌}
use mathlib.Core.Logic.{⊎_elim}
use mathlib.Core.List.{List}
use lib.Dec.{eqb}
use lib.ListN.{length}
use Rattle.rules.specs.OneOutcome.{OneEnd, OneOutcome}
use Rattle.rules.proofs.Tests.{decide}
use Rattle.agent_rows.specs.Layout.{row_length}
use Rattle.row_questions.specs.Questions.{RowListed}
use Rattle.row_questions.proofs.small.rom_lane.Kinds as rom-lane-kinds
use Rattle.row_questions.proofs.small.rom_lane.Reads as rom-lane-call
use Rattle.row_questions.proofs.planner.Kinds as planner-kinds
use Rattle.row_questions.proofs.planner.Reads as planner-call

pub rom_lane_one_outcome : OneOutcome 2 rom-lane-kinds.ps rom-lane-kinds.r rom-lane-call.Learnt
rom_lane_one_outcome κs a x y e f p q =
    ap₂ (λ (n m : ℕ). record { answer = n; cell = m }) (p.0 ∙ sym q.0) (p.1 ∙ sym q.1)

-- what the planner gives and leaves, all at once
pub listed_alike : (row : List ℕ) (τ : ℕ) (rates is ts ks : List ℕ) (r n r₂ n₂ : ℕ) (is' ts' ks' is₂ ts₂ ks₂ : List ℕ) →
    RowListed row τ rates is ts ks r n is' ts' ks' → RowListed row τ rates is ts ks r₂ n₂ is₂ ts₂ ks₂ →
    (r ≡ r₂) × ((n ≡ n₂) × ((is' ≡ is₂) × ((ts' ≡ ts₂) × (ks' ≡ ks₂))))
listed_alike row τ rates is ts ks r n r₂ n₂ is' ts' ks' is₂ ts₂ ks₂ p q =
    ⊎_elim
    (λ e.
    let s = p.lists e in
    let t = q.lists e in (
      s.answer ∙ sym t.answer,
      (s.many ∙ sym t.many, (s.ids ∙ sym t.ids, (s.times ∙ sym t.times, s.counts ∙ sym t.counts))),
    ))
    (λ e.
    let s = p.wrong_length e in
    let t = q.wrong_length e in (
      s.0 ∙ sym t.0,
      (
        s.1.0 ∙ sym t.1.0,
        (s.1.1.0 ∙ sym t.1.1.0, (s.1.1.1.0 ∙ sym t.1.1.1.0, s.1.1.1.1 ∙ sym t.1.1.1.1)),
      ),
    ))
    (decide (eqb (length row) row_length))

-- the rows of ids, times and counts are parameters 3 to 5
pub planner_one_outcome :
    OneEnd 5 planner-kinds.ps planner-kinds.r
    (λ κs e f.
    (e.1.1.1.0.now ≡ f.1.1.1.0.now)
    × ((e.1.1.1.1.0.now ≡ f.1.1.1.1.0.now) × (e.1.1.1.1.1.0.now ≡ f.1.1.1.1.1.0.now)))
    planner-call.Learnt
planner_one_outcome κs a x y e f p q =
    let one = listed_alike _ _ _ _ _ _ x.answer x.many y.answer y.many _ _ _ _ _ _ p q in
    (ap₂ (λ (n m : ℕ). record { answer = n; many = m }) one.0 one.1.0, one.1.1)
