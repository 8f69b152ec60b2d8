-- What an event asks of its title.
use Rattle.story.specs.declared.Title.{Title}
use Rattle.story.specs.declared.Act.{Act}
use Rattle.story.specs.declared.Act.TheVariants.{Opens, Changes, Closes, Doors}
use Rattle.measures.specs.Readable.{Changeable}

-- an opening nothing, any other a title that can be changed
abbrev pub Turnable : Title → Act → Type 0
Turnable t (Opens f k) = Unit {0}
Turnable t (Changes k) = Changeable t
Turnable t Closes = Changeable t
Turnable t (Doors b) = Changeable t
