-- `spans::measure` meets its contract: the log played to its end, and the row as it is then.
use Rattle.spans.proofs.Widened.{measured}
use Rattle.spans.proofs.measure.Goals as goal

pub returns : goal.returns
returns c =
    let at-play = c in
    measured _ _ _ _ _ at-play.play-measured.ensures.0 _ c.latest.ensures
