-- `frames::times::put_across` meets its contract: its parts are written one behind the other.
use Rattle.text.specs.Texts.{text}
use Rattle.text.proofs.Pages.{then}
use Rattle.frames.specs.Times.{time_across}
use Rattle.frames.proofs.times.put_across.Goals as goal

pub returns : goal.returns
unfolding text time_across
returns c =
    rw (← c.place-x.ensures.is)
    (then (then (then (then c.put_path.ensures c.put_point.ensures) c.put_step.ensures) c.put_path_end.ensures) c.put_time_mark.ensures)
