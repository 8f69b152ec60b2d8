-- `console_views::lanes::put_all` meets its contract: a question that is answered has a title with a tick and lanes.
use Prim.Native.Nat.{ℕ, ◌≤◌}
use mathlib.Core.Path.{◌≡◌}
use native.Mathlib.Omega.{arith}
use Rattle.rules.specs.Limits.{length_max}
use Rattle.rules.specs.Refusals.{done}
use Rattle.story.specs.declared.Title.{Title}
use Rattle.story.specs.declared.State.{State}
use Rattle.story.specs.Kept.{title_at}
use Rattle.measures.specs.Readable.{Filmed}
use Rattle.text.proofs.Pages.{then}
use Rattle.console_views.specs.Lanes.{lanes_answer, lane_lines}
use Rattle.console_views.proofs.Answered.{asked_id, asked_time, asked_ticks, asked_film}
use Rattle.console_views.proofs.lanes.put_all.Goals as goal

-- the film of the title that is read
film : (s : State) (i τ n : ℕ) {t : Title} → lanes_answer s i τ n ≡ done → t ≡ title_at s i → Filmed t.film
film s i τ n none is = rw is (asked_film s i τ n none)

pub title_of-t-requires : goal.title_of-t-requires
title_of-t-requires c =
    let x = c.args in
    asked_id x.s x.id x.time x.ticks c.requires

pub tick-tick-requires : goal.tick-tick-requires
tick-tick-requires c =
    let x = c.args in
    let f = film x.s x.id x.time x.ticks c.requires c.title_of-t.ensures in
    record { length = f.sized; floor_cap = f.cut }

pub tick_at-requires : goal.tick_at-requires
tick_at-requires c =
    let x = c.args in
    film x.s x.id x.time x.ticks c.requires c.title_of-t.ensures

pub put_lines-requires : goal.put_lines-requires
put_lines-requires c =
    let x = c.args in
    let f = film x.s x.id x.time x.ticks c.requires c.title_of-t.ensures in
    let short : c.tick-tick.result ≤ length_max = omega (arith, c.tick-tick.ensures.high, f.sized.high) in (
      asked_time x.s x.id x.time x.ticks c.requires,
      (short, asked_ticks x.s x.id x.time x.ticks c.requires),
    )

pub returns : goal.returns
unfolding lane_lines
returns c =
    rw (← c.title_of-t.ensures, ← c.tick_at.ensures.is, ← c.tick-tick.ensures.is)
    (then c.put_entry.ensures c.put_lines.ensures)
