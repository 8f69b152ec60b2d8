-- `text::output::put_value` meets its contract: the test says whether there is room.
use Rattle.text.proofs.Pages.{put_in, put_out}
use Rattle.text.proofs.output.put_value.Goals as goal

pub returns-then-at-row : goal.returns-then-at-row
returns-then-at-row c = put_in _ _ _ c.if-at-row.true

pub returns : goal.returns
returns c = put_out _ _ _ c.if-at-row.false
