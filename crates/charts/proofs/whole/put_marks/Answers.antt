-- `charts::whole::put_marks` meets its contract: the notices, and what is left behind them.
use mathlib.Core.Path.{refl}
use Rattle.charts.proofs.Viewed.{marks_are}
use Rattle.charts.proofs.whole.put_marks.Goals as goal

pub returns : goal.returns
returns c =
    let x = c.args in
    marks_are x.m x.v x.pool x.log.now _ _ _ refl c.play.ensures.agent_is c.play.ensures.written c.play.ensures.kept_is c.put_rest.ensures
