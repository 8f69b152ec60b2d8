-- `begun` meets its contract: the row's length, the pool, and then a row of a fresh agent.
use mathlib.Core.Path.{sym, ◌∙◌}
use Rattle.row_calls.proofs.Started.{fresh_elsewhere, fresh_refused, fresh_taken}
use Rattle.row_calls.proofs.starting.begun.Goals as goal

pub returns-then-row-ne-ROW_LENGTH : goal.returns-then-row-ne-ROW_LENGTH
returns-then-row-ne-ROW_LENGTH c = let a = c.args in fresh_elsewhere a.row.now a.pool c.if-row-ne-ROW_LENGTH.true

pub returns-then-not-within : goal.returns-then-not-within
returns-then-not-within c =
    let a = c.args in
    fresh_refused a.row.now a.pool c.if-row-ne-ROW_LENGTH.false (sym c.within.ensures ∙ c.if-not-within.true)

pub returns : goal.returns
returns c =
    let a = c.args in
    fresh_taken a.row.now a.pool c.if-row-ne-ROW_LENGTH.false (sym c.within.ensures ∙ c.if-not-within.false) c.fill.new.self (c.fill.ensures.after (λ y e. e))
