-- `salvage_lines::put_total` meets its contract: the words of the total.
use Rattle.text.specs.Texts.{text}
use Rattle.salvage_lines.specs.Lines.{total_line}
use Rattle.salvage_lines.proofs.put_total.Goals as goal

pub returns : goal.returns
unfolding total_line text
returns c = c.put_two.ensures
