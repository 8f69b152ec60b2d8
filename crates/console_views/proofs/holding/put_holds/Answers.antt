-- `console_views::holding::put_holds` meets its contract: its parts are written one behind the other.
use Rattle.text.specs.Texts.{text}
use Rattle.text.proofs.Pages.{then}
use Rattle.console_views.specs.Titles.{holds_text}
use Rattle.console_views.proofs.holding.put_holds.Goals as goal

pub title_held-requires : goal.title_held-requires
title_held-requires c = λ there. c.requires.film

pub put_each-requires : goal.put_each-requires
put_each-requires c = record { timed = c.requires; lanes_le_count_max = c.requires.film.cut.high }

pub returns : goal.returns
unfolding holds_text text
returns c = rw (← c.title_held.ensures.is) (then (then c.put.ensures c.put_number.ensures) c.put_each.ensures)
