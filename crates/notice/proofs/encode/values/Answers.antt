-- `encode::values` meets its contract: by the kind.
use borrow.Author.Rules.{rules}
use Rattle.notice.proofs.encode.values.Goals as goal

pub returns-in-Open : goal.returns-in-Open
returns-in-Open c = rw c.in-Open.is

pub returns-in-Change : goal.returns-in-Change
returns-in-Change c = rw c.in-Change.is

pub returns-in-Close : goal.returns-in-Close
returns-in-Close c = rw c.in-Close.is

pub returns-in-Hold : goal.returns-in-Hold
returns-in-Hold c = rw c.in-Hold.is

pub returns-in-Lift : goal.returns-in-Lift
returns-in-Lift c = rw c.in-Lift.is

pub returns-in-Skip : goal.returns-in-Skip
returns-in-Skip c = rw c.in-Skip.is
