-- `salvage_lines::put_follows` meets its contract: nothing is said of the next sequence.
use Rattle.text.specs.Texts.{text}
use Rattle.salvage_lines.proofs.Saying.{next_follows, other_follows}
use Rattle.salvage_lines.proofs.put_follows.Goals as goal

pub returns-then-s-l : goal.returns-then-s-l
unfolding text
returns-then-s-l c = other_follows _ _ _ _ c.if-s-l.true c.put_two.ensures

pub returns-else-s-l : goal.returns-else-s-l
returns-else-s-l c = next_follows _ _ _ c.if-s-l.false
