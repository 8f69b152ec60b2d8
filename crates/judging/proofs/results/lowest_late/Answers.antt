-- `judging::results::lowest_late` meets its contract. The invariant: no cell passed is late.
use mathlib.Core.Path.{sym, ◌∙◌}
use mathlib.Core.Logic.{⊎_elim}
use native.Mathlib.Omega.{arith}
use Rattle.rules.proofs.Search.{below_suc}
use Rattle.judging.proofs.Walked.{lowest_hit, lowest_none}
use Rattle.judging.proofs.results.lowest_late.Goals as goal

pub loop-cell-init : goal.loop-cell-init
loop-cell-init c = λ i l. absurd (omega arith)

pub returns-then-is_late : goal.returns-then-is_late
returns-then-is_late c =
    let l = c.loop-cell in
    sym (lowest_hit _ _ l.cell c.loop-cell-test.true (sym c.is_late.ensures ∙ c.if-is_late.true) l.invariant)

pub loop-cell-preserved : goal.loop-cell-preserved
loop-cell-preserved c =
    let l = c.loop-cell in
    λ i b. ⊎_elim (l.invariant i) (λ e. rw e (sym c.is_late.ensures ∙ c.if-is_late.false)) (below_suc i l.cell (omega arith))

pub returns : goal.returns
returns c = sym (lowest_none _ _ (λ i b. c.loop-cell.invariant i (omega (arith, c.loop-cell-test.false))))
