-- `box_charts::marks::put_plays` meets its contract: its parts are written one behind the other.
use Rattle.text.specs.Texts.{text}
use Rattle.box_charts.specs.Marks.{plays_text}
use Rattle.text.proofs.Pages.{then}
use Rattle.box_charts.proofs.marks.put_plays.Goals as goal

pub returns : goal.returns
unfolding text plays_text
returns c = then (then (then c.put_path.ensures c.put_point.ensures) c.put_plays_steps.ensures) c.put_path_end.ensures
