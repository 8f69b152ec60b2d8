-- `console_acts::writing::notice_of` meets its contract: the line's event with its sequence, each number cut at its field.
use mathlib.Core.Path.{◌∙◌}
use Rattle.console_acts.proofs.Written.{line_made}
use Rattle.console_acts.proofs.writing.notice_of.Goals as goal

pub returns : goal.returns
returns c =
    let l = c.args.line in
    c.notice_with.ensures
    ∙ line_made l _ _ c.as_four_bytes.ensures c.written_event.ensures
