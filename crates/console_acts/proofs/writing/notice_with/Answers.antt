-- `console_acts::writing::notice_with` meets its contract: the numbers of the event, each cut at its field.
use Rattle.console_acts.proofs.Written.{notice_made}
use Rattle.console_acts.proofs.writing.notice_with.Goals as goal

pub returns : goal.returns
returns c =
    let x = c.args in
    notice_made x.sequence x.e _ _ c.as_byte.ensures c.kind_for-kind.ensures
