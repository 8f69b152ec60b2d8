-- `curves::next_step` meets its contract: the next release, but no later than a moment.
use mathlib.Core.Path.{refl}
use native.Mathlib.Omega.{arith}
use borrow.Author.Tests.{lt-ltb, le-ltb}
use Rattle.curves.specs.Curves.{next_step}
use Rattle.curves.proofs.next_step.Goals as goal

pub returns-then-time-next : goal.returns-then-time-next
unfolding next_step
returns-then-time-next c =
    let at-if1 = c in
    let at-next-release = at-if1 in
    let at_start = at-next-release in
    (rw (← at-next-release.next_release-next.ensures, lt-ltb _ _ at-if1.if-time-next.true) c.min.ensures, (omega (arith, c.min.ensures, at-if1.if-time-next.true, at_start.requires.time_lt_to), omega (arith, c.min.ensures)))

pub returns : goal.returns
unfolding next_step
returns c =
    let at-next-release = c in
    let at_start = at-next-release in
    (rw (← at-next-release.next_release-next.ensures, le-ltb _ _ c.if-time-next.false) refl, (at_start.requires.time_lt_to, omega arith))
