-- `text::page::Page::put_byte` meets its contract: one byte is a text.
use mathlib.Core.Path.{refl}
use Rattle.text.specs.Output.{put, puts}
use Rattle.text.proofs.page.Page.put_byte.Goals as goal

pub returns : goal.returns
unfolding put puts
returns c = record { same_row = refl; written = c.put_byte-self.ensures }
