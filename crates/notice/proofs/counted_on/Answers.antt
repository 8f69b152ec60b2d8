-- `notice::counted_on` meets its contract: by the answer's case.
use borrow.Author.Rules.{rules}
use Rattle.notice.proofs.counted_on.Goals as goal

pub overflow_add-result : goal.overflow_add-result
overflow_add-result c = record { fits = rw c.in-At.is at c.requires }

pub returns-in-At : goal.returns-in-At
returns-in-At c = rw c.in-At.is

pub returns-in-End : goal.returns-in-End
returns-in-End c = rw c.in-End.is

pub returns-in-Malformed : goal.returns-in-Malformed
returns-in-Malformed c = rw c.in-Malformed.is
