-- `summing::sums_in` meets its contract and ends: each turn sums one notice more.
use mathlib.Core.Path.{sym, ◌∙◌}
use native.Mathlib.Omega.{arith}
use Rattle.journals.proofs.SumsMade.{not_begun, one_more, falls, none_made}
use Rattle.journals.proofs.summing.sums_in.Goals as goal

pub loop-out-init : goal.loop-out-init
loop-out-init c = not_begun _ _ _

pub sum_next-requires : goal.sum_next-requires
sum_next-requires c = omega (arith, c.loop-out.invariant.fits)

pub loop-out-smaller : goal.loop-out-smaller
loop-out-smaller c = falls _ _ _ _ _ _ c.loop-out.invariant _ (sym c.in-Some.is ∙ c.sum_next.ensures.0)

pub loop-out-preserved : goal.loop-out-preserved
loop-out-preserved c =
    one_more _ _ _ _ _ _ c.loop-out.invariant _ _ (sym c.far.ensures ∙ c.loop-out-test.true) (omega arith)
    (sym c.in-Some.is ∙ c.sum_next.ensures.0, c.sum_next.ensures.1)

pub returns-in_default : goal.returns-in_default
returns-in_default c = none_made _ _ _ _ _ _ c.loop-out.invariant _ (sym c.in_default.is ∙ c.sum_next.ensures.0, c.sum_next.ensures.1)
