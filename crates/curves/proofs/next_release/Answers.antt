-- `curves::next_release` meets its contract: slot by slot.
use mathlib.Core.Path.{refl, ap, ◌∙◌}
use native.Mathlib.Omega.{arith}
use native.Mathlib.Numerals.{add-one}
use native.Mathlib.Nat.{le_antisymm}
use Rattle.moments.specs.inner.Steps.{release_in}
use Rattle.moments.proofs.Due.{title_timed}
use Rattle.agent_rows.specs.Packed.{unpacked}
use Rattle.curves.proofs.next_release.Goals as goal

pub loop-id-init : goal.loop-id-init
unfolding release_in
loop-id-init c = refl

pub loop-id-preserved : goal.loop-id-preserved
unfolding release_in
loop-id-preserved c =
    let at-title-at = c in
    let at-loop-test = at-title-at in
    let at-loop = at-loop-test in
    rw (add-one, ← at-loop.loop-id.invariant, ← at-title-at.title_at.ensures) c.title_release-r.ensures

pub returns : goal.returns
returns c =
    let at-loop = c in
    let at_start = at-loop in
    let all = le_antisymm (omega arith) c.loop-id-test.false in
    at-loop.loop-id.invariant ∙ ap (release_in (unpacked at_start.args.row.now).state at_start.args.time) all

pub title_release-r-requires : goal.title_release-r-requires
title_release-r-requires c =
    let at-loop-test = c in
    let at_start = at-loop-test in
    title_timed _ _ at_start.requires.ok (omega (arith, at-loop-test.loop-id-test.true)) _ c.title_at.ensures
