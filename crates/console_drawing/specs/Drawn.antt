-- Behind which lines a picture stands, and how `draw` switches it (docs/CONSOLE.md, "Drawn on a terminal").
use Rattle.std.specs.Prelude.{ℕ, Bool, not, List, [], eqb}
use Rattle.rules.specs.Limits.{both, either, within}
use Rattle.rules.specs.Refusals.{pick, done}
use Rattle.notice.specs.declared.Reading.{Reading}
use Rattle.notice.specs.declared.Reading.TheVariants as reading
use Rattle.notice.specs.Decode.{read_of}
use Rattle.agent.specs.declared.Agent.{Agent}
use Rattle.console_commands.specs.Commands
use Rattle.console_lines.specs.declared.lines.Line.{Line}
use Rattle.console_lines.specs.Lines.{number_in, meaning}
use Rattle.console_notices.specs.Hex.{bytes_in}
use Rattle.console_acts.specs.Acts.{answer_after, agent_acted}
use Rattle.console_drawing.specs.Pictures.{title_picture}

-- the commands of events: their own words, and notice
unfoldable pub says_event : ℕ → Bool
says_event c = either (eqb c Commands.do_notice) (within Commands.do_open Commands.do_skip c)

-- the id that an event names: that of its notice, or the line's first number
abbrev pub title_read : Reading → ℕ
title_read (reading.Whole n) = n.title
title_read reading.Malformed = 0

unfoldable pub title_in : Line → List ℕ → ℕ
title_in l s = pick (eqb l.command Commands.do_notice) (title_read (read_of (bytes_in s l))) (number_in l 0)

-- behind a line that says an event: where an agent accepts it, its title in the state after it
unfoldable pub event_drawn : Agent → Line → List ℕ → List ℕ
event_drawn g l s = pick (eqb (answer_after g l s) done) (title_picture (agent_acted g l s).state (title_in l s)) []

-- behind the line s: nothing where it cannot be read, or says no event
unfoldable pub drawn_behind : Agent → List ℕ → List ℕ
drawn_behind g s =
    pick (both (eqb (meaning s).fault Commands.no_fault) (says_event (meaning s).command)) (event_drawn g (meaning s) s) []

-- whether events are drawn after a line: `draw` turns it about
unfoldable pub draws_after : Bool → Line → Bool
draws_after on l = pick (both (eqb l.fault Commands.no_fault) (eqb l.command Commands.do_draw)) (not on) on
