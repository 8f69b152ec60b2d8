-- `charts::whole::view_at` meets its contract: the span is what lies behind the first event.
use Rattle.charts.proofs.Viewed.{view_is}
use Rattle.charts.proofs.whole.view_at.Goals as goal

pub returns : goal.returns
returns c =
    let at_start = c in
    view_is at_start.args.m _ _ _ _ _ _ c.first_drawn-first.ensures c.since.ensures
