-- `console_views::films::put_film` meets its contract: its parts are written one behind the other.
use Rattle.text.specs.Texts.{text}
use Rattle.text.proofs.Pages.{then}
use Rattle.console_views.specs.Titles.{film_text}
use Rattle.console_views.proofs.films.put_film.Goals as goal

pub tick-tick-requires : goal.tick-tick-requires
tick-tick-requires c = record { length = c.requires.sized; floor_cap = c.requires.cut }

pub returns : goal.returns
unfolding film_text text
returns c =
    rw (← c.tick-tick.ensures.is)
    (then (then (then c.put_kind.ensures c.put_clock.ensures) c.put.ensures) c.put_clock-2.ensures)
