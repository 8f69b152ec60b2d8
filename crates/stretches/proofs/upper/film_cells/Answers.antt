-- `film_cells` meets its contract: the division rounds up.
use Rattle.grid.specs.Ticks.{rounded_up}
use Rattle.stretches.proofs.upper.film_cells.Goals as goal

pub returns : goal.returns
unfolding rounded_up
returns c = simp c.tick-tick.ensures.is
