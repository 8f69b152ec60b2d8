-- `judging::telling::put` meets its contract: the two ways out are the two cases of the definition.
use Rattle.judging.proofs.Told.{one_judged, none_judged}
use mathlib.Core.Bool.{Bool, true, false}
use mathlib.Core.Path.{◌≡◌, refl, ◌∙◌}
use mir.Val.{bool_byte}
use Rattle.rules.specs.Limits.{both}
use Rattle.rules.specs.Refusals.{pick}
use Rattle.rules.proofs.Tests.{both_in, both_none}
use Rattle.judging.proofs.telling.put.Goals.{else-admission-via-then-admission+else-whole, else-admission-via-else-admission}
use Rattle.judging.proofs.telling.put.Goals as goal

-- a test as a number
bit : (b : Bool) → bool_byte b ≡ pick b 1 0
bit true = refl
bit false = refl

pub returns-then-whole : goal.returns-then-whole
returns-then-whole c =
    let a = c.args in
    one_judged _ a.counts _ _ _ _ (both_in a.admission a.whole c.if-admission.true c.if-whole.true) (c.from.ensures ∙ bit _)

pub returns-else-admission : goal.returns-else-admission
returns-else-admission c =
    let a = c.args in
    let none : both a.admission a.whole ≡ false =
    elim c.else-admission.branch [
      | else-admission-via-then-admission+else-whole w ↦ rw w.if-whole.false (both_none _)
      | else-admission-via-else-admission w ↦ rw w.if-admission.false refl
    ] in
    none_judged _ a.counts _ _ _ _ none (c.from-else-admission.ensures ∙ bit _)
