-- The event that a line spells (docs/CONSOLE.md, "Commands"): behind the word of an event id, time and what the event takes, and behind
-- `write` and that word the same with the notice's sequence before it.
use Rattle.std.specs.Prelude.{ℕ, ◌-◌, ltb, eqb}
use Rattle.rules.specs.Refusals.{pick}
use Rattle.story.specs.declared.Act.{Act}
use Rattle.story.specs.declared.Act.TheVariants.{Changes, Closes}
use Rattle.story.specs.declared.Event.{Event}
use Rattle.story.specs.Story.{event, opens, skips, holds, lifts}
use Rattle.console_commands.specs.Commands
use Rattle.console_lines.specs.declared.lines.Line.{Line}
use Rattle.console_lines.specs.Lines.{number_in}

-- the command of an event's word: a write of a word stands as far behind it as that of open behind open
abbrev pub word_of : ℕ → ℕ
word_of c = pick (ltb c Commands.write_open) c (c - (Commands.write_open - Commands.do_open))

-- what a word says with the numbers behind id and time
unfoldable pub act_by : ℕ → ℕ → ℕ → ℕ → ℕ → Act
act_by c w x y z =
    pick (eqb c Commands.do_open) (opens w x y z)
    (pick (eqb c Commands.do_change) (Changes w)
    (pick (eqb c Commands.do_hold) holds
    (pick (eqb c Commands.do_lift) lifts
    (pick (eqb c Commands.do_skip) (skips w x)
    Closes))))

-- the event of a line, and that of a line that writes it
unfoldable pub event_in : Line → Event
event_in l =
    event (number_in l 0) (number_in l 1)
    (act_by (word_of l.command) (number_in l 2) (number_in l 3) (number_in l 4) (number_in l 5))

unfoldable pub written_event : Line → Event
written_event l =
    event (number_in l 1) (number_in l 2)
    (act_by (word_of l.command) (number_in l 3) (number_in l 4) (number_in l 5) (number_in l 6))
