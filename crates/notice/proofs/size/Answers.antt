-- `notice::size` meets its contract: a notice is as long as its kind says.
use mathlib.Core.Path.{sym, ◌∙◌}
use borrow.Author.Rules.{rules}
use Rattle.notice.proofs.Bytes.{length_notice}
use Rattle.notice.proofs.size.Goals as goal

pub returns : goal.returns
returns c = c.start.ensures ∙ rw c.kind_number.ensures (sym (length_notice _))
