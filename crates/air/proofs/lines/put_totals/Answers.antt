-- `air::lines::put_totals` meets its contract: three lines, one behind the other.
use Rattle.text.specs.Texts.{text}
use Rattle.text.proofs.Pages.{then}
use Rattle.air.specs.Lines.{total_lines}
use Rattle.air.proofs.lines.put_totals.Goals as goal

pub returns : goal.returns
unfolding total_lines text
returns c =
    rw (← c.difference-starved.ensures) (then (then c.put_line.ensures c.put_line-2.ensures) c.put_line-3.ensures)
