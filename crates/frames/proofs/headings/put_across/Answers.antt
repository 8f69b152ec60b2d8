-- `frames::headings::put_across` meets its contract: its parts are written one behind the other.
use Rattle.text.proofs.Pages.{then}
use Rattle.frames.specs.Headings.{across_text}
use Rattle.frames.proofs.headings.put_across.Goals as goal

pub returns : goal.returns
unfolding across_text
returns c = then (then (then c.put_path.ensures c.put_point.ensures) c.put_step.ensures) c.put_path_end.ensures
