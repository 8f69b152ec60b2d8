-- `strips::states::sending` meets its contract: none where it owed nothing, else up to its release.
use mathlib.Core.Path.{refl}
use borrow.Author.Tests.{eq-eqb}
use Rattle.strips.specs.States.{sending_stretch}
use Rattle.strips.proofs.Stretched.{sends}
use Rattle.strips.proofs.states.sending.Goals as goal

pub returns-then-owed-eq0 : goal.returns-then-owed-eq0
unfolding sending_stretch
returns-then-owed-eq0 c =
    let at-if1 = c in
    rw (eq-eqb _ _ at-if1.if-owed-eq0.true) refl

pub returns : goal.returns
returns c =
    let at-release-of = c in
    let at-if1 = at-release-of in
    let at_start = at-if1 in
    sends at_start.args.t at_start.args.lane at_start.args.since at_start.args.time _ _ at-if1.if-owed-eq0.false at-release-of.release_of.ensures c.min.ensures
