-- `console_drawing::pictures::put_line` meets its contract: its parts are written one behind the other.
use Rattle.text.specs.Texts.{text}
use Rattle.text.proofs.Pages.{then}
use Rattle.console_drawing.specs.Pictures.{sign_line}
use Rattle.console_drawing.proofs.pictures.put_line.Goals as goal

pub returns : goal.returns
unfolding sign_line text
returns c = then (then c.put_head.ensures c.put_signs.ensures) c.put.ensures
