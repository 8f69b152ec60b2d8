-- `waits::lines::put_waits` meets its contract: three lines, one behind the other.
use Rattle.text.specs.Texts.{text}
use Rattle.text.proofs.Pages.{then}
use Rattle.waits.specs.Lines.{wait_lines}
use Rattle.waits.proofs.lines.put_waits.Goals as goal

pub returns : goal.returns
unfolding wait_lines text
returns c = then (then c.put_line.ensures c.put_line-2.ensures) c.put_mean.ensures
