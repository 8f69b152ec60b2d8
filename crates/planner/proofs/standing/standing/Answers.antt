-- `standing` meets its contract: the state of a question whose numbers are within their limits is so.
use mathlib.Core.Path.{sym, ◌∙◌}
use Rattle.planner.proofs.Answers.{numbers_state}
use Rattle.planner.proofs.standing.standing.Goals as goal

pub shared_pool-requires : goal.shared_pool-requires
shared_pool-requires c =
    let a = c.args in
    numbers_state a.s a.time a.rates.now (sym c.numbers_ok.ensures ∙ c.if-not-numbers_ok.false)

pub floors-requires : goal.floors-requires
floors-requires c =
    let a = c.args in
    numbers_state a.s a.time a.rates.now (sym c.numbers_ok.ensures ∙ c.if-not-numbers_ok.false)
