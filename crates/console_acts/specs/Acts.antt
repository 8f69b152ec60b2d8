-- What a line of the console does to the agent (docs/CONSOLE.md, "Commands": fresh, events and notice).
use Rattle.std.specs.Prelude.{ℕ, List, eqb}
use Rattle.rules.specs.Refusals.{pick}
use Rattle.story.specs.Calls.{fresh_answer}
use Rattle.story.specs.Runs.{answered, called}
use Rattle.notice.specs.Decode.{read_of}
use Rattle.agent.specs.declared.Agent.{Agent}
use Rattle.agent.specs.Turns.{fresh_agent, notice_answer, noticed}
use Rattle.console_commands.specs.Commands
use Rattle.console_lines.specs.declared.lines.Line.{Line}
use Rattle.console_lines.specs.Lines.{number_in}
use Rattle.console_notices.specs.Hex.{bytes_in}
use Rattle.console_acts.specs.Events.{event_in}

-- an event acts on the agent's scheduler and leaves its sequence alone
abbrev pub after_event : Agent → Line → Agent
after_event g l = record { sequence = g.sequence; state = called g.state (event_in l) }

-- what a fresh agent, a notice or an event is answered
unfoldable pub answer_after : Agent → Line → List ℕ → ℕ
answer_after g l s =
    pick (eqb l.command Commands.do_fresh) (fresh_answer (number_in l 0))
    (pick (eqb l.command Commands.do_notice) (notice_answer g (read_of (bytes_in s l)))
    (answered g.state (event_in l)))

-- and the agent that it leaves
unfoldable pub agent_acted : Agent → Line → List ℕ → Agent
agent_acted g l s =
    pick (eqb l.command Commands.do_fresh) (fresh_agent (number_in l 0))
    (pick (eqb l.command Commands.do_notice) (noticed g (read_of (bytes_in s l)))
    (after_event g l))
