-- `planner` meets its contract: what is refused before the wishes is answered as it is, and the rest by the list.
use mathlib.Core.Path.{◌≡◌, sym, ◌∙◌}
use native.Mathlib.Omega.{arith}
use Rattle.rules.proofs.Told.{some_number}
use Rattle.planner.specs.Outcome.{room_of}
use Rattle.planner.specs.inner.Steps.{standing_answer}
use Rattle.planner.proofs.Answers.{refused_before, not_sixteen, refused_answered}
use Rattle.planner.proofs.planner.Goals as goal

pub returns-in-Err : goal.returns-in-Err
returns-in-Err c =
    let a = c.args in
    let same = c.refused.ensures.0 ∙ c.in-Err.ensures in
    let some : standing_answer a.s a.time a.rates.now ≡ 0 → ⊥ = λ e. some_number c.in-Err.refusal (c.in-Err.ensures ∙ e) in
    refused_answered a.s a.time a.rates.now a.ids.now a.times.now a.counts.now
    c.refused.result.answer c.refused.result.many
    (same ∙ sym (refused_before a.s a.time a.rates.now (room_of a.ids.now a.times.now a.counts.now) some))
    c.refused.ensures.1
    (λ e. some (sym same ∙ e))

pub returns-then-rates-ne-TITLES_MAX : goal.returns-then-rates-ne-TITLES_MAX
returns-then-rates-ne-TITLES_MAX c =
    let a = c.args in
    refused_answered a.s a.time a.rates.now a.ids.now a.times.now a.counts.now
    c.refused-then-rates-ne-TITLES_MAX.result.answer c.refused-then-rates-ne-TITLES_MAX.result.many
    (c.refused-then-rates-ne-TITLES_MAX.ensures.0
    ∙ sym
    (not_sixteen a.s a.time a.rates.now (room_of a.ids.now a.times.now a.counts.now) (sym c.in_default.ensures)
    c.if-rates-ne-TITLES_MAX.true))
    c.refused-then-rates-ne-TITLES_MAX.ensures.1
    (λ e. omega (arith, c.refused-then-rates-ne-TITLES_MAX.ensures.0))
