-- `waits::lines::put_counts` meets its contract: three lines, one behind the other.
use Rattle.text.specs.Texts.{text}
use Rattle.text.proofs.Pages.{then}
use Rattle.waits.specs.Lines.{count_lines}
use Rattle.waits.proofs.lines.put_counts.Goals as goal

pub returns : goal.returns
unfolding count_lines text
returns c = rw (← c.difference.ensures) (then (then c.put_line.ensures c.put_line-2.ensures) c.put_line-3.ensures)
