-- `console_balance::rates::ids_ok` meets its contract: the pairs passed have ids, and one that has none ends the walk.
use mathlib.Core.Path.{◌≡◌, refl, sym, ◌∙◌}
use mathlib.Core.Bool.{true, false}
use native.Mathlib.Numerals.{add-one}
use borrow.Author.Tests.{le-leb, lt-leb}
use Rattle.rules.specs.Search.{every}
use Rattle.rules.proofs.Tests.{fails}
use Rattle.rules.proofs.Search.{every_out}
use Rattle.console_balance.proofs.rates.ids_ok.Goals as goal

pub loop-i-init : goal.loop-i-init
unfolding every
loop-i-init c = refl

pub loop-i-preserved : goal.loop-i-preserved
unfolding every
loop-i-preserved c = rw (add-one, le-leb _ _ c.if-numbers-i-gt-ID_MAX.false) c.loop-i.invariant

pub returns-then-numbers-i-gt-ID_MAX : goal.returns-then-numbers-i-gt-ID_MAX
returns-then-numbers-i-gt-ID_MAX c =
    sym (fails _ (λ h.
    let clash : false ≡ true = sym (lt-leb _ _ c.if-numbers-i-gt-ID_MAX.true) ∙ every_out _ _ c.loop-i.i h c.loop-i-test.true in
    cc))
