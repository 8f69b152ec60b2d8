-- `torn::had_kind` meets its contract: a kind that fits ends the search, and in the end none does.
use mathlib.Core.Path.{◌≡◌, refl, sym, ◌∙◌}
use native.Mathlib.Numerals.{add-one}
use native.Mathlib.Omega.{arith}
use Rattle.rules.specs.Search.{some}
use Rattle.rules.proofs.Search.{some_in}
use Rattle.journals.specs.Torn.{had_kind}
use Rattle.journals.proofs.torn.had_kind.Goals as goal

pub loop-kind-init : goal.loop-kind-init
unfolding some
loop-kind-init c = refl

pub loop-kind-preserved : goal.loop-kind-preserved
unfolding some
loop-kind-preserved c = rw (add-one, ← c.is_kind.ensures, c.if-is_kind.false) c.loop-kind.invariant

pub returns-then-is_kind : goal.returns-then-is_kind
unfolding had_kind
returns-then-is_kind c = sym (some_in _ _ _ c.loop-kind-test.true (sym c.is_kind.ensures ∙ c.if-is_kind.true))

pub returns : goal.returns
unfolding had_kind
returns c =
    let last : c.loop-kind.kind ≡ 7 = omega arith in
    sym (rw last at c.loop-kind.invariant)
