-- The number that the words of a refusal name (docs/CONSOLE.md, "Refusals"): of a notice out of turn the sequence that
-- is expected, of a count the floor that it is below or the cap that it is above, of a change that comes too soon the moment
-- from which on it no longer does.
use Rattle.std.specs.Prelude.{ℕ, ◌+◌, List, leb, eqb}
use Rattle.rules.specs.Limits.{id_max}
use Rattle.rules.specs.Refusals.{pick, out_of_turn, too_soon}
use Rattle.story.specs.declared.State.{State}
use Rattle.story.specs.declared.Act.{Act}
use Rattle.story.specs.declared.Act.TheVariants.{Opens, Changes, Closes, Doors}
use Rattle.story.specs.declared.Event.{Event}
use Rattle.story.specs.Kept.{title_at}
use Rattle.questions.specs.Asked.{settled_in}
use Rattle.notice.specs.declared.Reading.{Reading}
use Rattle.notice.specs.declared.Reading.TheVariants as reading
use Rattle.notice.specs.Decode.{read_of}
use Rattle.agent.specs.declared.Agent.{Agent}
use Rattle.agent.specs.Turns.{event_of}
use Rattle.console_commands.specs.Commands
use Rattle.console_lines.specs.declared.lines.Line.{Line}
use Rattle.words.specs.Words.{missed}
use Rattle.console_notices.specs.Hex.{bytes_in}
use Rattle.console_acts.specs.Events.{event_in}

-- of the title of an id, by the answer a; an id that is out of range has none
abbrev pub missed_at : ℕ → State → ℕ → ℕ
missed_at a t i =
    pick (eqb a too_soon) (settled_in t i) (pick (leb i id_max) (missed a (title_at t i).film.floor (title_at t i).film.cap) 0)

-- of what an event does to an id: an opening has its own floor and cap
abbrev pub missed_as : ℕ → State → ℕ → Act → ℕ
missed_as a t i (Opens f k) = missed a f.floor f.cap
missed_as a t i (Changes k) = missed_at a t i
missed_as a t i Closes = missed_at a t i
missed_as a t i (Doors b) = missed_at a t i

abbrev pub missed_by : ℕ → State → Event → ℕ
missed_by a t e = missed_as a t e.title e.act

-- of a notice, by its event; bytes that are no notice have none
abbrev pub missed_of : ℕ → State → Reading → ℕ
missed_of a t (reading.Whole n) = missed_by a t (event_of n)
missed_of a t reading.Malformed = 0

-- of a line that is an event or hands on a notice, and that an agent answers with a
unfoldable pub named_in : ℕ → Agent → Line → List ℕ → ℕ
named_in a g l s =
    pick (eqb a out_of_turn) (g.sequence + 1)
    (pick (eqb l.command Commands.do_notice) (missed_of a g.state (read_of (bytes_in s l)))
    (missed_by a g.state (event_in l)))
