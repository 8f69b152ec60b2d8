-- `notice::place_after` meets its contract: by the answer's case.
use borrow.Author.Rules.{rules}
use Rattle.notice.proofs.place_after.Goals as goal

pub returns-in-At : goal.returns-in-At
returns-in-At c = rw c.in-At.is

pub returns-in-End : goal.returns-in-End
returns-in-End c = rw c.in-End.is

pub returns-in-Malformed : goal.returns-in-Malformed
returns-in-Malformed c = rw c.in-Malformed.is
