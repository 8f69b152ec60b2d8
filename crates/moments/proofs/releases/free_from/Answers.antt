-- `free_from` meets its contract: up to the loop's time more than the pool is held, and each turn goes on to the next release.
use mathlib.Core.Path.{sym, ◌∙◌}
use native.Mathlib.Omega.{arith}
use Rattle.rules.specs.Limits.{titles_max}
use Rattle.story.specs.Kept.{lanes_held}
use Rattle.moments.proofs.Released.{release_high, release_low, lanes_steady, waits_none, full_early, waits_on, waits_over}
use Rattle.moments.proofs.releases.free_from.Goals as goal

pub loop-s-init : goal.loop-s-init
loop-s-init c = waits_none _ _ _ c.requires.from_bound

pub is_full-requires : goal.is_full-requires
is_full-requires c = c.requires.all_timed

pub next_release-time-requires : goal.next_release-time-requires
next_release-time-requires c = c.requires.all_timed

pub loop-s-smaller : goal.loop-s-smaller
loop-s-smaller c =
    let s = c.args.s in
    let l = c.loop-s in
    let full = sym c.is_full.ensures ∙ c.loop-s-test.true in
    let early = full_early (lanes_held s) s.pool 0 l.time full in
    omega (arith, early, c.next_release-time.ensures, release_low s l.time titles_max early)

pub loop-s-preserved : goal.loop-s-preserved
loop-s-preserved c =
    let start = c in
    let a = start.args in
    let l = c.loop-s in
    let full = sym c.is_full.ensures ∙ c.loop-s-test.true in
    let early = full_early (lanes_held a.s) a.s.pool 0 l.time full in
    rw c.next_release-time.ensures
    (waits_on (lanes_held a.s) a.s.pool a.from l.time l.invariant _
    (release_low a.s l.time titles_max early) (release_high a.s l.time titles_max)
    (λ υ hi. lanes_steady a.s start.requires.all_timed l.time υ early hi) full)

pub returns : goal.returns
returns c =
    let a = c.args in
    let l = c.loop-s in
    waits_over (lanes_held a.s) a.s.pool a.from l.time l.invariant (sym c.is_full.ensures ∙ c.loop-s-test.false)
