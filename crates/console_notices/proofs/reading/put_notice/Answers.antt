-- `console_notices::reading::put_notice` meets its contract: 0, the sequence, and the kind with its numbers.
use Rattle.text.specs.Texts.{text}
use Rattle.console_notices.specs.Reading.{notice_text}
use Rattle.text.proofs.Pages.{then}
use Rattle.console_notices.proofs.reading.put_notice.Goals as goal

pub returns : goal.returns
unfolding notice_text text
returns c = then (then c.put.ensures c.put_entry.ensures) c.put_kind.ensures
