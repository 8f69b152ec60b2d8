-- `spans::widen` meets its contract, by its calls.
use Rattle.spans.specs.Extents.{widened}
use Rattle.spans.proofs.widen.Goals as goal

pub returns : goal.returns
unfolding widened
returns c = simp (c.as_byte.ensures, c.max.ensures, c.from.ensures, c.unwrap_or.ensures)
