-- `moved` meets its contract: the slot's title, changed, in its place.
use mathlib.Core.Path.{◌∙◌}
use Rattle.planner.proofs.times.moved.Goals as goal

pub changed_title-requires : goal.changed_title-requires
changed_title-requires c = rw c.title_of.ensures record { changeable = c.requires.changeable; time_le_asked_max = c.requires.id_le_id_max.1 }

pub returns : goal.returns
returns c = c.with_title.ensures ∙ simp (c.changed_title.ensures, c.title_of.ensures)
