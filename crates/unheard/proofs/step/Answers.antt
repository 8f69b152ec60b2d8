-- `unheard::step` meets its contract, by whether a notice was read.
use Rattle.logs.proofs.Own.{steps_told, steps_nowhere}
use Rattle.unheard.specs.inner.Steps.{counted}
use Rattle.unheard.proofs.Answers.{roomy}
use borrow.Author.Rules.{rules}
use Rattle.unheard.proofs.step.Goals as goal

pub count-requires : goal.count-requires
count-requires c =
    let at_read = c in
    roomy _ _ _ _ _ _ at_read.requires.small at_read.read_on-read.ensures c.if-next.true (search rules)

pub returns-then-next : goal.returns-then-next
returns-then-next c =
    let at_read = c in
    steps_told (λ a t. counted t a) _ _ _ _ _ _ at_read.read_on-read.ensures _ c.if-next.true c.count.ensures

pub returns : goal.returns
returns c = steps_nowhere (λ a t. counted t a) _ _ _ _ _ _ c.read_on-read.ensures c.if-next.false
