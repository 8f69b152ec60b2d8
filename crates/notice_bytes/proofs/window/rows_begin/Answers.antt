-- `window::rows_begin` meets its contract: every row passed begins, and one that doesn't decides.
use mathlib.Core.Path.{◌≡◌, refl, sym, ◌∙◌}
use mathlib.Core.Bool.{false≢true}
use native.Mathlib.Omega.{arith}
use native.Mathlib.Numerals.{add-one}
use Rattle.rules.specs.Search.{every}
use Rattle.rules.proofs.Tests.{both_in, fails}
use Rattle.rules.proofs.Search.{every_out}
use Rattle.notice_fields.specs.Fields.{rows}
use Rattle.notice_bytes.proofs.window.rows_begin.Goals as goal

pub loop-i-init : goal.loop-i-init
unfolding every
loop-i-init c = refl

pub loop-i-preserved : goal.loop-i-preserved
unfolding every
loop-i-preserved c =
    rw add-one (both_in _ _ (sym c.row_begins.ensures ∙ c.if-not-row_begins.false) c.loop-i.invariant)

pub returns-then-not-row_begins : goal.returns-then-not-row_begins
returns-then-not-row_begins c =
    sym (fails _ (λ t. false≢true (sym (sym c.row_begins.ensures ∙ c.if-not-row_begins.true) ∙ every_out _ rows c.loop-i.i t c.loop-i-test.true)))

pub returns : goal.returns
returns c = let e : c.loop-i.i ≡ rows = omega arith in cc
