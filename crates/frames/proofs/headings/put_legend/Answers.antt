-- `frames::headings::put_legend` meets its contract: one text.
use Rattle.text.specs.Texts.{text}
use Rattle.frames.proofs.headings.put_legend.Goals as goal

pub returns : goal.returns
unfolding text
returns c = c.put.ensures
