-- `sharing::verdict::verdict` meets its contract: at each way out the tests before it say which refusal is the first
-- (proofs/verdict/Laws).
use mathlib.Core.Path.{refl, sym, ◌∙◌}
use native.Mathlib.Omega.{arith}
use Rattle.std.proofs.lemmas.Bool.{not-true, not-false}
use Rattle.rules.proofs.Tests.{both_in, both_none}
use Rattle.sharing.proofs.verdict.Laws.{fit, accepted}
use Rattle.sharing.proofs.verdict.Laws.{refused_rows, refused_limits, refused_counts, refused_lanes}
use Rattle.sharing.proofs.verdict.verdict.Goals as goal

pub returns-then-not-rows_fit : goal.returns-then-not-rows_fit
returns-then-not-rows_fit c = refused_rows _ _ _ _ _ _ (sym c.rows_fit.ensures ∙ c.if-not-rows_fit.true)

pub returns-then-not-within : goal.returns-then-not-within
returns-then-not-within c =
    refused_limits _ _ _ _ _ _ (sym c.rows_fit.ensures ∙ c.if-not-rows_fit.false)
    (rw (sym c.within.ensures ∙ c.if-not-within.true) refl)

pub examine-t-requires : goal.examine-t-requires
examine-t-requires c = (fit _ _ _ _ _ (sym c.rows_fit.ensures ∙ c.if-not-rows_fit.false)).even

pub returns-then-not-t : goal.returns-then-not-t
returns-then-not-t c =
    refused_limits _ _ _ _ _ _ (sym c.rows_fit.ensures ∙ c.if-not-rows_fit.false)
    (rw (sym c.examine-t.ensures.limits ∙ not-true _ c.if-not-t.true) (both_none _))

pub returns-then-not-t-2 : goal.returns-then-not-t-2
returns-then-not-t-2 c =
    refused_counts _ _ _ _ _ _ (sym c.rows_fit.ensures ∙ c.if-not-rows_fit.false)
    (both_in _ _ (sym c.within.ensures ∙ c.if-not-within.false) (sym c.examine-t.ensures.limits ∙ not-false _ c.if-not-t.false))
    (sym c.examine-t.ensures.order ∙ not-true _ c.if-not-t-2.true)

pub floor_total-requires : goal.floor_total-requires
floor_total-requires c =
    let f = fit _ _ _ _ _ (sym c.rows_fit.ensures ∙ c.if-not-rows_fit.false) in
    omega (arith, f.few, f.even.third)

pub returns-then-pool-floor_total : goal.returns-then-pool-floor_total
returns-then-pool-floor_total c =
    refused_lanes _ _ _ _ _ _ (sym c.rows_fit.ensures ∙ c.if-not-rows_fit.false)
    (both_in _ _ (sym c.within.ensures ∙ c.if-not-within.false) (sym c.examine-t.ensures.limits ∙ not-false _ c.if-not-t.false))
    (sym c.examine-t.ensures.order ∙ not-false _ c.if-not-t-2.false)
    (omega (arith, c.if-pool-floor_total.true, c.floor_total.ensures))

pub returns : goal.returns
returns c =
    accepted _ _ _ _ _ _ (sym c.rows_fit.ensures ∙ c.if-not-rows_fit.false)
    (both_in _ _ (sym c.within.ensures ∙ c.if-not-within.false) (sym c.examine-t.ensures.limits ∙ not-false _ c.if-not-t.false))
    (sym c.examine-t.ensures.order ∙ not-false _ c.if-not-t-2.false)
    (omega (arith, c.if-pool-floor_total.false, c.floor_total.ensures))
