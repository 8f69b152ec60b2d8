-- `gone_from` meets its contract: up to the loop's time the title holds a lane, and each turn goes on to the next release of one.
use Prim.Native.Nat.{suc}
use mathlib.Core.Path.{sym, ◌∙◌}
use native.Mathlib.Omega.{arith}
use Rattle.rules.specs.Limits.{event_time_max}
use Rattle.story.specs.Kept.{title_held}
use Rattle.moments.proofs.Released.{lanes_first, lanes_low, title_steady, waits_none, full_early, waits_on, waits_over}
use Rattle.moments.proofs.releases.gone_from.Goals as goal

pub loop-t-init : goal.loop-t-init
loop-t-init c = waits_none _ _ _ c.requires.from_bound

pub is_holding-requires : goal.is_holding-requires
is_holding-requires c = c.requires.timed

pub lanes_release-time-requires : goal.lanes_release-time-requires
lanes_release-time-requires c = c.requires.timed

pub loop-t-smaller : goal.loop-t-smaller
loop-t-smaller c =
    let t = c.args.t in
    let l = c.loop-t in
    let full = sym c.is_holding.ensures ∙ c.loop-t-test.true in
    let early = full_early (title_held t) 0 0 l.time full in
    omega (arith, early, c.lanes_release-time.ensures, lanes_low t l.time (suc event_time_max) t.film.cap (omega (arith, early)))

pub loop-t-preserved : goal.loop-t-preserved
loop-t-preserved c =
    let start = c in
    let a = start.args in
    let l = c.loop-t in
    let full = sym c.is_holding.ensures ∙ c.loop-t-test.true in
    let early = full_early (title_held a.t) 0 0 l.time full in
    rw c.lanes_release-time.ensures
    (waits_on (title_held a.t) 0 a.from l.time l.invariant _
    (lanes_low a.t l.time (suc event_time_max) a.t.film.cap (omega (arith, early)))
    (lanes_first a.t l.time (suc event_time_max) a.t.film.cap)
    (λ υ hi. title_steady a.t start.requires.timed l.time υ early hi) full)

pub returns : goal.returns
returns c =
    let a = c.args in
    let l = c.loop-t in
    waits_over (title_held a.t) 0 a.from l.time l.invariant (sym c.is_holding.ensures ∙ c.loop-t-test.false)
