-- The notice that a line writes (docs/CONSOLE.md, "Commands": write): that of its event, with its sequence. A number too large for its
-- field is an error of the line, so that none is cut here.
use Rattle.std.specs.Prelude.{min}
use Rattle.notice.specs.declared.Notice.{Notice}
use Rattle.text.specs.Numbers.{byte_most, four_bytes_most}
use Rattle.story.specs.declared.Act.{Act}
use Rattle.story.specs.declared.Act.TheVariants.{Opens, Changes, Closes, Doors}
use Rattle.story.specs.declared.Event.{Event}
use Rattle.story.specs.Story.{event, film_of}
use Rattle.agent.specs.Series.{notice_for}
use Rattle.console_lines.specs.declared.lines.Line.{Line}
use Rattle.console_lines.specs.Lines.{number_in}
use Rattle.console_acts.specs.Events.{written_event}

-- an event with each number cut at what its field holds
abbrev pub cut_act : Act → Act
cut_act (Opens f k) =
    Opens (film_of f.kind (min f.length four_bytes_most) (min f.floor byte_most) (min f.cap byte_most)) (min k byte_most)
cut_act (Changes k) = Changes (min k byte_most)
cut_act Closes = Closes
cut_act (Doors b) = Doors b

abbrev pub cut_event : Event → Event
cut_event e = event (min e.title byte_most) e.time (cut_act e.act)

unfoldable pub written_notice : Line → Notice
written_notice l = notice_for (min (number_in l 0) four_bytes_most) (cut_event (written_event l))
