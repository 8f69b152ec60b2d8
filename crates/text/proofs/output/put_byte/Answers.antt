-- `text::output::put_byte` meets its contract: the test says whether there is room.
use Rattle.text.proofs.Pages.{put_in, put_out}
use Rattle.text.proofs.output.put_byte.Goals as goal

pub returns-then-at-out : goal.returns-then-at-out
returns-then-at-out c = put_in _ _ _ c.if-at-out.true

pub returns : goal.returns
returns c = put_out _ _ _ c.if-at-out.false
