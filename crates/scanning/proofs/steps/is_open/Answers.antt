-- `scanning::steps::is_open` meets its contract, by its tests.
use Rattle.scanning.proofs.Stepping.{none_open, some_open}
use borrow.Author.Rules.{rules}
use Rattle.scanning.proofs.steps.is_open.Goals as goal

pub returns-then-p-eq0 : goal.returns-then-p-eq0
returns-then-p-eq0 c = none_open _ c.if-p-eq0.true

pub returns : goal.returns
returns c = some_open _ c.if-p-eq0.false
