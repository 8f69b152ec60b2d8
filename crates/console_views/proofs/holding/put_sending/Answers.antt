-- `console_views::holding::put_sending` meets its contract: a lane that still sends and until when, or nothing.
use Rattle.text.specs.Texts.{text}
use Rattle.text.proofs.Pages.{then, nothing}
use Rattle.console_views.specs.Titles.{sending_text}
use Rattle.console_views.proofs.holding.put_sending.Goals as goal

pub still_sends-requires : goal.still_sends-requires
still_sends-requires c = record { filmed = c.requires.timed.film; lane_lt_count_max = c.requires.lane_lt_count_max }

pub put_until-requires : goal.put_until-requires
put_until-requires c = c.requires

pub returns-then-still_sends : goal.returns-then-still_sends
unfolding sending_text text
returns-then-still_sends c =
    rw (← c.still_sends.ensures, c.if-still_sends.true) (then (then c.put.ensures c.put_number.ensures) c.put_until.ensures)

pub returns-else-still_sends : goal.returns-else-still_sends
unfolding sending_text
returns-else-still_sends c = rw (← c.still_sends.ensures, c.if-still_sends.false) nothing
