-- `chart::complaints::next_moment` meets its contract: both numbers held at their limits.
use Rattle.chart.specs.Complaints.{next_moment}
use borrow.Author.Rules.{rules}
use Rattle.chart.proofs.complaints.next_moment.Goals as goal

pub returns : goal.returns
unfolding next_moment
returns c = cc
