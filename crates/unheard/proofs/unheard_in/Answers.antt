-- `unheard::unheard_in` meets its contract: the refusals in their order, then the count of the log's notices.
use mathlib.Core.Path.{refl, sym, ◌∙◌}
use Rattle.unheard.proofs.Answers.{outside, cut, told}
use Rattle.unheard.proofs.unheard_in.Goals as goal

pub play-counted-requires : goal.play-counted-requires
play-counted-requires c = record { row_len = refl; pool_value = sym c.within.ensures ∙ c.if-within.true }

pub returns-then-counted-log : goal.returns-then-counted-log
returns-then-counted-log c =
    let at-play = c in
    let fits = sym at-play.within.ensures ∙ at-play.if-within.true in
    cut _ _ fits _ _ _ at-play.play-counted.ensures _ c.refused.ensures c.if-counted-log.true

pub returns-then-within : goal.returns-then-within
returns-then-within c =
    let at-play = c in
    let fits = sym at-play.within.ensures ∙ at-play.if-within.true in
    told _ _ fits _ _ _ at-play.play-counted.ensures c.if-counted-log.false

pub returns : goal.returns
returns c = outside _ _ _ c.refused-2.ensures (sym c.within.ensures ∙ c.if-within.false)
