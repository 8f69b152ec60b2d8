-- `console_drawing::pictures::put_signs` meets its contract: the ticks passed have their signs.
use Rattle.console_answers.proofs.Rows.{each_none, each_more}
use Rattle.console_drawing.proofs.pictures.put_signs.Goals as goal

pub loop-j-init : goal.loop-j-init
loop-j-init c = each_none _

pub loop-j-preserved : goal.loop-j-preserved
loop-j-preserved c = each_more _ _ c.loop-j.invariant c.put_sign.ensures
