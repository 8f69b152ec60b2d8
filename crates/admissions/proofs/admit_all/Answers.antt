-- `admissions::admit_all` meets its contract: the totals of the arrivals passed, with room for the rest.
use native.Mathlib.Nat.{le_antisymm}
use native.Mathlib.Numerals.{add-one}
use native.Mathlib.Omega.{arith}
use borrow.Author.Rules.{rules}
use Rattle.admissions.specs.Stretches.{gathered}
use Rattle.admissions.proofs.Slots.{row_room}
use Rattle.admissions.proofs.admit_all.Goals as goal

pub loop-arrival-init : goal.loop-arrival-init
unfolding gathered
loop-arrival-init c = search rules

pub admit-all-requires : goal.admit-all-requires
admit-all-requires c =
    let pre = c.requires in
    let inv = c.loop-arrival.invariant in
    record { spaced = pre.spaced; upto_le_asked_max = pre.upto_le_asked_max; room = rw inv (row_room _ _ _ _ _ _ _ pre.spaced pre.upto_le_asked_max pre.few (omega arith)) }

pub loop-arrival-preserved : goal.loop-arrival-preserved
unfolding gathered
loop-arrival-preserved c = rw add-one (cc)

pub returns : goal.returns
returns c = cc (le_antisymm c.loop-arrival.auto.arrival-index-end c.loop-arrival-test.false)
