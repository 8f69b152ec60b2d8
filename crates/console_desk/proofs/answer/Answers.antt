-- `console_desk::answer` meets its contract: what is read is replied to, and whether the session is over.
use mathlib.Core.Path.{◌∙◌, ap}
use Rattle.console_desk.specs.Desk.{is_last}
use Rattle.console_desk.proofs.Ended.{ended}
use Rattle.console_desk.proofs.answer.Goals as goal

pub reply-after-requires : goal.reply-after-requires
reply-after-requires c = c.parse-line.ensures

pub returns : goal.returns
returns c =
    let answered = c.reply-after.ensures in
    let row = ended c.from-page.ensures answered.written c.end.ensures.place c.end.ensures.row search in
    (record { agent = answered.agent; written = row }, c.ends-over.ensures ∙ ap is_last c.parse-line.ensures)
