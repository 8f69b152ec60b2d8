-- `judging::next::note` meets its contract. The invariant: the lanes passed are noted.
use mathlib.Core.Path.{sym, ap, ◌∙◌}
use Prim.Native.Nat.{ℕ, ◌+◌, ◌*◌, ◌<◌}
use native.Mathlib.Omega.{arith}
use native.Mathlib.Nat.{le_antisymm}
use borrow.Author.Rules.{rules}
use lib.ListN.{length, get_or}
use lib.Seq.{set_out}
use Rattle.rules.specs.Limits.{lane_places}
use Rattle.judging.specs.Record.{nothing_seen}
use Rattle.judging.specs.inner.Walk.{noted}
use Rattle.judging.proofs.Walked.{get_d_any, noted_next}
use Rattle.judging.proofs.next.note.Goals.{then-cell-next, else-cell-next}
use Rattle.judging.proofs.next.note.Goals as goal

pub loop-lane-init : goal.loop-lane-init
unfolding noted
loop-lane-init c = search rules

pub overflow_cast-cell : goal.overflow_cast-cell
overflow_cast-cell c = omega (arith, c.shared_slice_known-1.given (c.args.tick * lane_places + c.loop-lane.lane))

pub loop-lane-preserved : goal.loop-lane-preserved
loop-lane-preserved c =
    let a = c.args in
    let l = c.loop-lane in
    let at : ℕ = a.tick * lane_places + l.lane in
    let there : at < length a.air.now = omega arith in
    let x : ℕ = get_or a.air.now at 0 in
    let noted_one = noted_next a.air.now a.tick a.next.now l.next l.lane x l.invariant (get_d_any a.air.now at 0 nothing_seen there) in
    elim c.if-cell-next.branch [
      | then-cell-next w ↦ w.next-is ∙ noted_one
      | else-cell-next w ↦ w.next-is ∙ sym (set_out l.next x a.tick w.if-cell-next.false) ∙ noted_one
    ]

pub returns : goal.returns
returns c = c.loop-lane.invariant ∙ ap (noted _ _ _) (le_antisymm c.loop-lane.auto.lane-end c.loop-lane-test.false)
