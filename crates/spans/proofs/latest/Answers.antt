-- `spans::latest` meets its contract: slot by slot.
use mathlib.Core.Path.{refl, ap, ◌∙◌}
use native.Mathlib.Omega.{arith}
use native.Mathlib.Numerals.{add-one}
use native.Mathlib.Nat.{le_antisymm}
use Rattle.agent_rows.specs.Packed.{unpacked}
use Rattle.spans.specs.Extents.{latest_over}
use Rattle.moments.proofs.Due.{title_timed}
use Rattle.spans.proofs.latest.Goals as goal

pub loop-id-init : goal.loop-id-init
unfolding latest_over
loop-id-init c = refl

pub title_at-requires : goal.title_at-requires
title_at-requires c =
    let at_start = c in
    (at_start.requires.long, omega (arith, c.loop-id-test.true))

pub title_until-requires : goal.title_until-requires
title_until-requires c =
    let at-loop-test = c in
    let at_start = at-loop-test in
    title_timed _ _ at_start.requires.ok (omega (arith, at-loop-test.loop-id-test.true)) _ c.title_at.ensures

pub loop-id-preserved : goal.loop-id-preserved
unfolding latest_over
loop-id-preserved c =
    let at-title-until = c in
    let at-title-at = at-title-until in
    let at-loop-test = at-title-at in
    let at-loop = at-loop-test in
    rw (add-one, ← at-loop.loop-id.invariant, ← at-title-at.title_at.ensures, ← at-title-until.title_until.ensures) c.max-end.ensures

pub returns : goal.returns
returns c =
    let at-loop = c in
    let at_start = at-loop in
    let all = le_antisymm (omega arith) c.loop-id-test.false in
    at-loop.loop-id.invariant ∙ ap (latest_over (unpacked at_start.args.row.now).state) all
