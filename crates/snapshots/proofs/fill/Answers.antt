-- `fill` meets its contract: the places passed have the numbers that the bytes spell, and the others what they had.
use Prim.Native.Nat.{ℕ, ◌<◌}
use mathlib.Core.Path.{◌≡◌, refl, ap, ◌∙◌}
use native.Mathlib.Nat.{mul_comm}
use native.Mathlib.Omega.{arith}
use lib.ListN.{length}
use Rattle.notice_fields.specs.Numbers.{number_at}
use Rattle.snapshots.specs.Bytes.{numbers_in}
use Rattle.snapshots.proofs.Laying.{one_over, all_over}
use Rattle.snapshots.proofs.fill.Goals as goal

pub loop-i-init : goal.loop-i-init
unfolding numbers_in
loop-i-init c = refl

pub overflow_mul-i : goal.overflow_mul-i
overflow_mul-i c = omega (arith, c.requires)

pub get-requires : goal.get-requires
get-requires c = omega (arith, c.requires)

pub loop-i-preserved : goal.loop-i-preserved
loop-i-preserved c =
    let at = c in
    let start = at in
    let l = at.loop-i in
    let below : l.i < length start.args.row.now = omega arith in
    rw l.invariant (one_over start.args.bytes.now start.args.row.now l.i c.get.result below (c.get.ensures.0 ∙ ap (λ (a : ℕ). number_at start.args.bytes.now a 8) (mul_comm l.i 8)))

pub shape_of-row : goal.shape_of-row
shape_of-row c = c.loop-i.auto.row

pub returns : goal.returns
returns c =
    let l = c.loop-i in
    let start = c in
    let e : l.i ≡ length start.args.row.now = omega arith in
    rw (l.invariant, e) (all_over start.args.bytes.now start.args.row.now)
