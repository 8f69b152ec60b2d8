-- `held_at` meets its contract: the loop's number is the count of the lanes passed, the active ones all held.
use mathlib.Core.Path.{refl, sym, ◌∙◌, ap}
use native.Mathlib.Omega.{arith}
use native.Mathlib.Numerals.{add-one}
use native.Mathlib.Nat.{le_antisymm}
use Rattle.rules.specs.Search.{how_many}
use Rattle.measures.proofs.Active.{active_held, above_held, byte_pick, byte_le}
use Rattle.measures.proofs.lanes.held_at.Goals as goal

pub loop-lane-init : goal.loop-lane-init
loop-lane-init c =
    let active = c.min-active.result in
    (sym (active_held c.args.t c.args.tick active (omega arith)), omega arith, omega arith)

pub overflow_add-n : goal.overflow_add-n
overflow_add-n c = omega (arith, byte_le c.is_sending.result)

pub loop-lane-preserved : goal.loop-lane-preserved
unfolding how_many
loop-lane-preserved c =
    let l = c.loop-lane in
    let sends = above_held c.args.t l.lane c.args.tick (omega arith) in
    let one = c.from-n.ensures ∙ byte_pick c.is_sending.result in
    (rw (add-one, ← l.invariant.0, sends, ← c.is_sending.ensures, one) refl, omega (arith, byte_le c.is_sending.result), omega arith)

pub returns : goal.returns
returns c =
    let all = le_antisymm (c.loop-lane.auto.lane-end (omega arith)) c.loop-lane-test.false in
    record { is = c.loop-lane.invariant.0 ∙ ap (how_many _) all; low = omega arith; high = omega arith }
