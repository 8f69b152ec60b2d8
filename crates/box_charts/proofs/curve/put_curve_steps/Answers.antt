-- `box_charts::curve::put_curve_steps` meets its contract: tick by tick.
use Rattle.box_charts.proofs.Folds.{curve_none, curve_next}
use Rattle.box_charts.proofs.curve.put_curve_steps.Goals as goal

pub loop-tick-init : goal.loop-tick-init
loop-tick-init c = curve_none _ _ _

pub loop-tick-preserved : goal.loop-tick-preserved
loop-tick-preserved c =
    curve_next _ _ _ c.loop-tick.tick c.loop-tick.invariant c.kept_at-many.ensures.0 c.kept_y.ensures c.x_of.ensures.0 c.put_step.ensures
    c.put_step-in-loop-tick.ensures
