-- `airing::reasons::stray_of` meets its contract: each number passed is a cell or nothing.
use Prim.Native.Nat.{ℕ, ◌≤◌, ◌<◌}
use mathlib.Core.Path.{◌≡◌, sym, ap, subst, ◌∙◌}
use mathlib.Core.Bool.{Bool, true, false, not, false≢true}
use mathlib.Core.Logic.{⊎_elim}
use native.Mathlib.Omega.{arith}
use native.Mathlib.Nat.{le_antisymm}
use borrow.Author.Count.{below_more}
use borrow.Author.Tests.{ltb-true, ltb-false}
use lib.Dec.{ltb, eqb}
use lib.ListN.{get_or, length}
use Rattle.rules.specs.Limits.{either}
use Rattle.rules.specs.Search.{first}
use Rattle.rules.proofs.Tests.{decide}
use Rattle.rules.proofs.Search.{first_le, first_hit_lem, first_least}
use Rattle.judging.specs.Record.{nothing_seen}
use Rattle.airing.specs.Air.{is_cell_of}
use Rattle.airing.specs.Reasons.{first_stray}
use Rattle.airing.proofs.reasons.stray_of.Goals as goal

-- the first that passes, or the bound
first_at : (p : ℕ → Bool) (n i : ℕ) → i ≤ n → ((k : ℕ) → k < i → p k ≡ false) → (i < n → p i ≡ true) → first p n ≡ i
first_at p n i l none here =
    le_antisymm
    (⊎_elim (λ t. first_least p n i (here (ltb-true i n t))) (λ t. omega (arith, first_le p n, ltb-false i n t)) (decide (ltb i n)))
    (⊎_elim
    (λ t. let low = ltb-true (first p n) i t in absurd (false≢true (sym (none (first p n) low) ∙ first_hit_lem p n (omega arith))))
    (λ t. ltb-false (first p n) i t)
    (decide (ltb (first p n) i)))

-- a number is tested by the cells of the cap
same_cells : (x m n : ℕ) (b : Bool) → m ≡ n → either (eqb x nothing_seen) (ltb x m) ≡ b → not (either (eqb x nothing_seen) (ltb x n)) ≡ not b
same_cells x m n b e h = ap not (subst (λ (k : ℕ). either (eqb x nothing_seen) (ltb x k) ≡ b) e h)

pub loop-i-preserved : goal.loop-i-preserved
loop-i-preserved c = below_more _ _ c.loop-i.invariant (sym c.is_cell.ensures ∙ c.if-not-is_cell.false)

pub returns-then-not-is_cell : goal.returns-then-not-is_cell
unfolding first_stray
returns-then-not-is_cell c =
    let r = c.args.«record».now in
    let l = c.loop-i in
    sym (first_at (λ j. not (is_cell_of c.args.cap (get_or r j 0))) (length r) l.i l.auto.i-end
    (λ k h. same_cells _ _ _ _ c.pow2-cells.ensures.is (l.invariant k h))
    (λ h. same_cells _ _ _ _ c.pow2-cells.ensures.is (sym c.is_cell.ensures ∙ c.if-not-is_cell.true)))

pub returns : goal.returns
unfolding first_stray
returns c =
    let r = c.args.«record».now in
    let l = c.loop-i in
    sym (first_at (λ j. not (is_cell_of c.args.cap (get_or r j 0))) (length r) (length r) (omega arith)
    (λ k h. same_cells _ _ _ _ c.pow2-cells.ensures.is (l.invariant k (omega (arith, c.loop-i-test.false))))
    (λ h. absurd (omega arith)))
