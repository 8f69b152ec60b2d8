-- `waiting::play` meets its contract and ends: each step is one read more, and one that goes on moves ahead.
use mathlib.Core.Path.{sym, ◌∙◌}
use native.Mathlib.Omega.{arith}
use Rattle.logs.proofs.Reading.{not_begun, played_on, tested, all_played, falls}
use Rattle.waiting.proofs.Reading.{ready}
use Rattle.waiting.proofs.play.Goals as goal

pub loop-counted-init : goal.loop-counted-init
loop-counted-init c = not_begun _ _ _ _ _ _ _ c.not_begun.ensures c.opened.ensures

pub step-counted-requires : goal.step-counted-requires
step-counted-requires c = let at-loop = c in
    let known = at-loop in
    let s = known in record { tested = tested _ _ _ _ _ _ _ at-loop.loop-counted.invariant (λ j. omega (arith, known.shared_slice_known-1.given j)); ready_to_tally = ready _ _ _ _ _ _ _ at-loop.loop-counted.invariant (λ j. omega (arith, known.shared_slice_known-1.given j)) s.requires.title_le_id_max s.requires.arrivals_len_bound }

pub loop-counted-smaller : goal.loop-counted-smaller
loop-counted-smaller c =
    let at-step = c in
    falls _ _ _ at-step.loop-counted-test.true at-step.step-counted.ensures.played_is

pub loop-counted-preserved : goal.loop-counted-preserved
loop-counted-preserved c =
    let at-step = c in
    played_on _ _ _ _ _ _ _ _ _ _ at-step.step-counted.ensures at-step.loop-counted.invariant

pub shape_of-row : goal.shape_of-row
shape_of-row c = c.loop-counted.invariant.is_row.long ∙ sym c.requires.row_len

pub returns : goal.returns
returns c = all_played _ _ _ _ _ _ _ c.loop-counted.invariant c.loop-counted-test.false
