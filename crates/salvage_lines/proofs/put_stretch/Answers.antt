-- `salvage_lines::put_stretch` meets its contract: the words of a stretch.
use Rattle.text.specs.Texts.{text}
use Rattle.salvage_lines.specs.Lines.{stretch_line}
use Rattle.salvage_lines.proofs.put_stretch.Goals as goal

pub returns : goal.returns
unfolding stretch_line text
returns c = c.put_two.ensures
