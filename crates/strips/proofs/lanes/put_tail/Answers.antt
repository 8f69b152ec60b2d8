-- `strips::lanes::put_tail` meets its contract: its parts are written one behind the other.
use Rattle.text.specs.Texts.{text}
use Rattle.text.proofs.Pages.{then}
use Rattle.strips.specs.Lanes.{tail_text}
use Rattle.strips.proofs.lanes.put_tail.Goals as goal

pub returns : goal.returns
unfolding text tail_text
returns c = then (then (then c.put_path.ensures c.put_point.ensures) c.put_step.ensures) c.put_path_end.ensures
