-- `spans::releases::title_until` meets its contract: 0 without a title.
use borrow.Author.Tests.{eq-eqb, ne_eqb}
use mathlib.Core.Path.{refl}
use Rattle.spans.specs.Extents.{title_until}
use Rattle.spans.proofs.releases.title_until.Goals as goal

pub returns-then-t-eq-ABSENT : goal.returns-then-t-eq-ABSENT
unfolding title_until
returns-then-t-eq-ABSENT c = rw (eq-eqb _ _ c.if-t-eq-ABSENT.true) refl

pub last_release-requires : goal.last_release-requires
last_release-requires c =
    let at_start = c in
    at_start.requires c.if-t-eq-ABSENT.false

pub returns : goal.returns
unfolding title_until
returns c =
    let at-if1 = c in
    rw (ne_eqb _ _ at-if1.if-t-eq-ABSENT.false) c.last_release.ensures
