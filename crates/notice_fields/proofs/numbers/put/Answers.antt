-- `numbers::put` meets its contract: from the place reached on stand the number's last bytes, and what is left is the rest of it.
-- Rests on the two laws of one byte more.
use Prim.Native.Nat.{◌-◌}
use mathlib.Core.Path.{◌≡◌, refl, sym}
use native.Mathlib.Nat.{div-one, add-zero}
use native.Mathlib.Omega.{arith}
use lib.Seq.{length-sets}
use Rattle.notice_fields.specs.Numbers.{big_endian}
use Rattle.notice_fields.proofs.Digits.{put_more, left_more}
use Rattle.notice_fields.proofs.numbers.put.Goals as goal

pub loop-i-init : goal.loop-i-init
unfolding big_endian
loop-i-init c =
    let none : c.args.width - c.args.width ≡ 0 = omega arith in
    rw none (sym (div-one _), refl)

pub bounds-room-at : goal.bounds-room-at
bounds-room-at c = rw (c.loop-i.invariant.1, length-sets) (omega arith)

pub loop-i-preserved : goal.loop-i-preserved
loop-i-preserved c =
    let l = c.loop-i.invariant in (
      rw l.0 (left_more _ _ _ c.loop-i-test.true (omega arith)),
      rw (l.1, l.0) (put_more _ _ _ _ _ c.loop-i-test.true (omega arith)),
    )

pub shape_of-room : goal.shape_of-room
shape_of-room c = rw (c.loop-i.invariant.1, length-sets)

pub returns : goal.returns
returns c =
    let e : c.loop-i.i ≡ 0 = omega arith in
    let f : c.args.width - c.loop-i.i ≡ c.args.width = omega arith in
    rw (c.loop-i.invariant.1, f, e, add-zero)
