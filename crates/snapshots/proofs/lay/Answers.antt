-- `lay` meets its contract: the bytes of the numbers passed stand from the start on.
use mathlib.Core.Path.{◌≡◌, refl, ap, ◌∙◌}
use native.Mathlib.Omega.{arith}
use lib.ListN.{length, take}
use lib.Seq.{length-sets, take-length}
use Rattle.snapshots.specs.Bytes.{number_bytes}
use Rattle.snapshots.proofs.Laying.{one_laid}
use Rattle.snapshots.proofs.lay.Goals as goal

pub loop-i-init : goal.loop-i-init
unfolding number_bytes
loop-i-init c = refl

pub overflow_mul-i : goal.overflow_mul-i
overflow_mul-i c = omega arith

pub put-requires : goal.put-requires
put-requires c =
    let at = c in
    let start = at in
    let l = at.loop-i in
    let same = ap length l.invariant ∙ length-sets start.args.room.now 0 (number_bytes (take l.i start.args.row.now)) in
    omega (arith, same, start.requires)

pub loop-i-preserved : goal.loop-i-preserved
loop-i-preserved c =
    let at = c in
    let start = at in
    let l = at.loop-i in
    rw (c.put.ensures, l.invariant) (one_laid start.args.row.now _ l.i (omega arith))

pub shape_of-room : goal.shape_of-room
shape_of-room c =
    let at = c in
    let start = at in
    ap length at.loop-i.invariant ∙ length-sets start.args.room.now 0 (number_bytes (take at.loop-i.i start.args.row.now))

pub returns : goal.returns
returns c =
    let l = c.loop-i in
    let e : l.i ≡ length c.args.row.now = omega arith in
    rw (l.invariant, e, take-length)
