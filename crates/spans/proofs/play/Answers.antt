-- `spans::play` meets its contract: each step is one read more, and one that goes on moves ahead.
use mathlib.Core.Path.{sym, ◌∙◌}
use native.Mathlib.Omega.{arith}
use Rattle.logs.proofs.Reading.{not_begun, played_on, tested, all_played, falls}
use Rattle.spans.proofs.play.Goals as goal

pub loop-measured-init : goal.loop-measured-init
loop-measured-init c =
    let at-not-begun = c in
    not_begun _ _ _ _ _ _ _ at-not-begun.not_begun.ensures c.no_extent.ensures

pub step-measured-requires : goal.step-measured-requires
step-measured-requires c =
    let at-loop = c in
    let at-shared-slice-known = at-loop in
    tested _ _ _ _ _ _ _ at-loop.loop-measured.invariant (λ j. omega (arith, at-shared-slice-known.shared_slice_known-1.given j))

pub loop-measured-smaller : goal.loop-measured-smaller
loop-measured-smaller c =
    let at-step = c in
    let at-loop-test = at-step in
    falls _ _ _ at-loop-test.loop-measured-test.true at-step.step-measured.ensures.played_is

pub loop-measured-preserved : goal.loop-measured-preserved
loop-measured-preserved c =
    let at-step = c in
    let at-loop = at-step in
    played_on _ _ _ _ _ _ _ _ _ _ at-step.step-measured.ensures at-loop.loop-measured.invariant

pub shape_of-row : goal.shape_of-row
shape_of-row c =
    let at-loop = c in
    let at_start = at-loop in
    at-loop.loop-measured.invariant.is_row.long ∙ sym at_start.requires.row_len

pub returns : goal.returns
returns c =
    let at-loop = c in
    let at-shared-slice-known = at-loop in
    (all_played _ _ _ _ _ _ _ at-loop.loop-measured.invariant c.loop-measured-test.false, tested _ _ _ _ _ _ _ at-loop.loop-measured.invariant (λ j. omega (arith, at-shared-slice-known.shared_slice_known-1.given j)))
