-- `headend_desk::answer` meets its contract: what is read is replied to, and whether the session is over.
use mathlib.Core.Path.{◌∙◌, ap}
use Rattle.console_desk.specs.Desk.{is_last}
use Rattle.console_desk.proofs.Ended.{ended}
use Rattle.headend_desk.proofs.answer.Goals as goal

pub turn-agent-requires : goal.turn-agent-requires
turn-agent-requires c = c.parse-line.ensures

pub returns : goal.returns
returns c =
    let turned = c.turn-agent.ensures in (
      record {
        agent = turned.agent;
        answered = ended c.from-page.ensures turned.answered c.end.ensures.place c.end.ensures.row search;
        noticed = ended c.from-noticed.ensures turned.noticed c.end-2.ensures.place c.end-2.ensures.row search;
        summed = ended c.from-summed.ensures turned.summed c.end-3.ensures.place c.end-3.ensures.row search;
      },
      c.ends-over.ensures ∙ ap is_last c.parse-line.ensures,
    )
