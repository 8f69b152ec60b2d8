-- `at_tick_start` meets its contract.
use Rattle.story.specs.Kept.{at_tick_start}
use Rattle.measures.proofs.ticks.at_tick_start.Goals as goal

pub returns : goal.returns
unfolding at_tick_start
returns c = simp (c.saturating_sub.ensures, c.tick.ensures.is)
