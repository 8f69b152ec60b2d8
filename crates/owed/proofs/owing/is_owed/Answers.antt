-- `is_owed` meets its contract: padding is owed to nobody, and film to those who await it.
use Rattle.story.specs.Kept.{kept_owed}
use Rattle.owed.proofs.owing.is_owed.Goals as goal

pub returns-then-holds_film : goal.returns-then-holds_film
unfolding kept_owed
returns-then-holds_film c = simp (← c.lane_cell-cell.ensures.is, ← c.holds_film.ensures, c.if-holds_film.true) c.is_awaited.ensures

pub returns-else-holds_film : goal.returns-else-holds_film
unfolding kept_owed
returns-else-holds_film c = simp (← c.lane_cell-cell.ensures.is, ← c.holds_film.ensures, c.if-holds_film.false)
