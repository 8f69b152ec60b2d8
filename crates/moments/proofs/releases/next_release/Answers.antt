-- `next_release` meets its contract: the loop's moment is the next release in the slots passed.
use mathlib.Core.Path.{ap, ◌∙◌}
use native.Mathlib.Numerals.{add-one}
use native.Mathlib.Nat.{le_antisymm}
use Rattle.moments.specs.inner.Steps.{release_in}
use borrow.Author.Rules.{rules}
use Rattle.moments.proofs.releases.next_release.Goals as goal

pub loop-t-init : goal.loop-t-init
unfolding release_in
loop-t-init c = search rules

pub title_release-r-requires : goal.title_release-r-requires
title_release-r-requires c = c.requires c.loop-t.t-index c.loop-t-test.true

pub loop-t-preserved : goal.loop-t-preserved
unfolding release_in
loop-t-preserved c = rw (add-one, ← c.loop-t.invariant) c.title_release-r.ensures

pub returns : goal.returns
returns c =
    let all = le_antisymm c.loop-t.auto.t-index-end c.loop-t-test.false in
    c.loop-t.invariant ∙ ap (release_in _ _) all
