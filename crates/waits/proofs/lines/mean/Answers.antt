-- `waits::lines::mean` meets its contract: what is left over is half of the divisor, or not.
use Rattle.waits.proofs.Mean.{mean_none, mean_down, mean_up, mean_fits}
use borrow.Author.Rules.{rules}
use Rattle.waits.proofs.lines.mean.Goals as goal

pub returns-then-n-eq0 : goal.returns-then-n-eq0
returns-then-n-eq0 c = mean_none _ _ c.if-n-eq0.true

pub returns-then-rest-n : goal.returns-then-rest-n
returns-then-rest-n c = mean_down _ _ c.if-n-eq0.false c.if-rest-n.true

pub overflow_add-result : goal.overflow_add-result
overflow_add-result c = record { fits = mean_fits _ _ c.if-n-eq0.false c.if-rest-n.false (search rules) }

pub returns : goal.returns
returns c = mean_up _ _ c.if-n-eq0.false c.if-rest-n.false
