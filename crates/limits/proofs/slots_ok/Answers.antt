-- `slots_ok` meets its contract: every slot passed is within the limits, and one that isn't decides.
use mathlib.Core.Path.{◌≡◌, refl, sym, ◌∙◌}
use mathlib.Core.Bool.{false≢true}
use native.Mathlib.Omega.{arith}
use native.Mathlib.Numerals.{add-one}
use Rattle.rules.specs.Search.{every}
use Rattle.rules.proofs.Tests.{both_in, fails}
use Rattle.rules.proofs.Search.{every_out}
use Rattle.limits.proofs.slots_ok.Goals as goal

pub loop-i-init : goal.loop-i-init
unfolding every
loop-i-init c = refl

pub loop-i-preserved : goal.loop-i-preserved
unfolding every
loop-i-preserved c =
    rw add-one (both_in _ _ (sym c.slot_ok.ensures ∙ c.if-not-slot_ok.false) c.loop-i.invariant)

pub returns-then-not-slot_ok : goal.returns-then-not-slot_ok
returns-then-not-slot_ok c =
    sym (fails _ (λ t. false≢true (sym (sym c.slot_ok.ensures ∙ c.if-not-slot_ok.true) ∙ every_out _ 16 c.loop-i.i t c.loop-i-test.true)))

pub returns : goal.returns
returns c = let e : c.loop-i.i ≡ 16 = omega arith in cc
