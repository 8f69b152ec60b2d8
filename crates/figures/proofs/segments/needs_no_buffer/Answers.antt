-- `figures::segments::needs_no_buffer` meets its contract: a cell that is not on the air ends the search, and in the end all were.
use mathlib.Core.Path.{◌≡◌, refl, sym, ◌∙◌}
use mathlib.Core.Bool.{true, false≢true}
use mathlib.Core.Logic.{⊎_elim}
use Prim.Native.Nat.{ℕ, zero, suc, ◌+◌, ◌<◌}
use native.Mathlib.Omega.{arith}
use native.Mathlib.Numerals.{add-one}
use Rattle.rules.proofs.Tests.{both_l, both_r, fails}
use Rattle.rules.proofs.Search.{below_suc}
use Rattle.grid.specs.Lanes.{is_in_g}
use Rattle.figures.specs.Segments.{needs_no_buffer}
use Rattle.figures.proofs.segments.needs_no_buffer.Goals as goal

all_out : (start n : ℕ) → needs_no_buffer start n ≡ true → (k : ℕ) → k < n → is_in_g 4 4 4 (start + k) k ≡ true
unfolding needs_no_buffer
all_out start zero h k l = absurd (omega arith)
all_out start (suc n) h k l =
    ⊎_elim (λ c. all_out start n (both_l (needs_no_buffer start n) _ h) k c)
    (λ e. rw e (both_r (needs_no_buffer start n) _ h))
    (below_suc k n l)

pub loop-cell-init : goal.loop-cell-init
unfolding needs_no_buffer
loop-cell-init c = refl

pub loop-cell-preserved : goal.loop-cell-preserved
unfolding needs_no_buffer
loop-cell-preserved c = rw (add-one, c.loop-cell.invariant, ← c.in_g.ensures, c.if-not-in_g.false) refl

pub returns-then-not-in_g : goal.returns-then-not-in_g
returns-then-not-in_g c =
    sym (fails _ (λ t. false≢true (sym c.if-not-in_g.true ∙ c.in_g.ensures ∙ all_out _ 15 t _ c.loop-cell-test.true)))

pub returns : goal.returns
returns c =
    let last : c.loop-cell.cell ≡ 15 = omega arith in
    sym (rw last at c.loop-cell.invariant)
