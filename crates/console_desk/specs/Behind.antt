-- What stands behind the refusal of a line that would change the agent (docs/CONSOLE.md, "Refusals"): fresh, an event, a notice.
use Rattle.std.specs.Prelude.{ℕ, List, [], ◌∷◌, eqb}
use Rattle.rules.specs.Refusals.{pick}
use Rattle.story.specs.declared.State.{State}
use Rattle.notice.specs.declared.Reading.{Reading}
use Rattle.notice.specs.declared.Reading.TheVariants as reading
use Rattle.notice.specs.Decode.{read_of}
use Rattle.agent.specs.declared.Agent.{Agent}
use Rattle.agent.specs.Turns.{event_of}
use Rattle.console_commands.specs.Commands
use Rattle.console_lines.specs.declared.lines.Line.{Line}
use Rattle.console_lines.specs.Lines.{number_in}
use Rattle.console_notices.specs.Hex.{bytes_in}
use Rattle.console_acts.specs.Events.{event_in}
use Rattle.console_limits.specs.Asked.{limit_reason}
use Rattle.console_reasons.specs.Events.{reason_text}

-- of a notice, by its event; bytes that are no notice have none
abbrev pub reading_reason : ℕ → State → Reading → List ℕ
reading_reason a t (reading.Whole n) = reason_text a t (event_of n)
reading_reason a t reading.Malformed = []

-- of a line that the agent g answers with a
unfoldable pub behind_in : ℕ → Agent → Line → List ℕ → List ℕ
behind_in a g l s =
    pick (eqb l.command Commands.do_fresh) (limit_reason a Commands.do_fresh (number_in l 0 ∷ []))
    (pick (eqb l.command Commands.do_notice) (reading_reason a g.state (read_of (bytes_in s l)))
    (reason_text a g.state (event_in l)))
