-- `playouts::lines::put_refused` meets its contract: number and meaning, and the line's end.
use Rattle.text.specs.Texts.{text}
use Rattle.text.proofs.Pages.{then}
use Rattle.playouts.specs.Lines.{refused_line}
use Rattle.playouts.proofs.lines.put_refused.Goals as goal

pub returns : goal.returns
unfolding refused_line text
returns c = then c.put_refusal.ensures c.put.ensures
