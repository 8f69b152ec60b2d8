-- `starts` meets its contract: the test is the definition's. Rests on what its callee ensures.
use borrow.Author.Rules.{rules}
use Rattle.scheme.specs.Scheme.{starts}
use Rattle.scheme.proofs.starts.Goals as goal

pub returns : goal.returns
unfolding starts
returns c = cc c.slot.ensures.is
