-- `charts::whole::view_of` meets its contract: the curve stands below the last band.
use Rattle.charts.specs.Charts.{view_of}
use Rattle.charts.proofs.whole.view_of.Goals as goal

pub returns : goal.returns
unfolding view_of
returns c =
    let at-top-of = c in
    let at-view-at = at-top-of in
    rw (← at-view-at.view_at.ensures, ← at-top-of.top_of-top.ensures.0) c.view_at-2.ensures
