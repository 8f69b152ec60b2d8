-- `title_release` meets its contract: each way out decides whether the slot has a title.
use borrow.Author.Tests.{eq-eqb, ne_eqb}
use Rattle.moments.specs.inner.Steps.{title_release}
use Rattle.moments.proofs.releases.title_release.Goals as goal

pub returns-then-t-eq-ABSENT : goal.returns-then-t-eq-ABSENT
unfolding title_release
returns-then-t-eq-ABSENT c = simp (eq-eqb _ _ c.if-t-eq-ABSENT.true)

pub lanes_release-requires : goal.lanes_release-requires
lanes_release-requires c = c.requires c.if-t-eq-ABSENT.false

pub returns : goal.returns
unfolding title_release
returns c = simp (ne_eqb _ _ c.if-t-eq-ABSENT.false) c.lanes_release.ensures
