-- `console_views::holding::put_until` meets its contract: the moment at which the list has gone, or that it goes past the clock.
use native.Mathlib.Omega.{arith}
use borrow.Author.Tests.{le-leb, lt-leb}
use Rattle.text.specs.Texts.{text}
use Rattle.text.proofs.Pages.{then}
use Rattle.console_views.specs.Titles.{until_text}
use Rattle.console_views.proofs.holding.put_until.Goals as goal

pub tick-tick-requires : goal.tick-tick-requires
tick-tick-requires c = record { length = c.requires.timed.film.sized; floor_cap = c.requires.timed.film.cut }

pub release_of-requires : goal.release_of-requires
release_of-requires c =
    let is = c.tick-tick.ensures in
    record {
      timed = c.requires.timed;
      lane_lt_count_max = (c.requires.lane_lt_count_max, (is.is, omega (arith, is.high, c.requires.timed.film.sized.high)));
    }

pub returns-then-gone-le-PAST : goal.returns-then-gone-le-PAST
unfolding until_text text
returns-then-gone-le-PAST c =
    rw (← c.gone_tick-gone.ensures, le-leb _ _ c.if-gone-le-PAST.true, ← c.release_of.ensures)
    (then c.put.ensures c.put_clock.ensures)

pub returns-else-gone-le-PAST : goal.returns-else-gone-le-PAST
unfolding until_text text
returns-else-gone-le-PAST c =
    rw (← c.gone_tick-gone.ensures, lt-leb _ _ c.if-gone-le-PAST.false) c.put-else-gone-le-PAST.ensures
