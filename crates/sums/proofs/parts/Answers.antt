-- `parts` meets its contract: after i rounds i bytes of each part have gone in.
-- Rests on the laws of registers of parts.
use Prim.Native.Nat.{◌+◌, ◌*◌}
use mathlib.Core.Path.{◌≡◌, ap, ◌∙◌}
use native.Mathlib.Omega.{arith}
use Rattle.sums.specs.Crc.{ones}
use Rattle.sums.specs.inner.Moves.{register_from}
use Rattle.sums.proofs.Parted.{none_in, next_in_lem}
use Rattle.sums.proofs.parts.Goals as goal

pub loop-i-init : goal.loop-i-init
loop-i-init c =
    let a = c.args in
    let b = a.bytes.now in
    (none_in b 0 ones, none_in b a.many 0, none_in b (2 * a.many) 0, none_in b (3 * a.many) 0)

pub loop-i-preserved : goal.loop-i-preserved
loop-i-preserved c =
    let one = c.before.before.before in
    let l = one.loop-i in
    let a = one.args in
    let b = a.bytes.now in
    let e : 0 + l.i ≡ l.i = omega arith in (
      next_in_lem b 0 ones l.i l.a _ l.invariant.0 (rw e one.next-a.ensures),
      next_in_lem b a.many 0 l.i l.b _ l.invariant.1 c.next-b.ensures,
      next_in_lem b (2 * a.many) 0 l.i l.c _ l.invariant.2 c.next-c.ensures,
      next_in_lem b (3 * a.many) 0 l.i l.d _ l.invariant.3 c.next-d.ensures,
    )

pub returns : goal.returns
returns c =
    let l = c.loop-i in
    let a = c.args in
    let b = a.bytes.now in
    let e : l.i ≡ a.many = omega arith in
    record {
      first = l.invariant.0 ∙ ap (register_from b 0 ones) e;
      second = l.invariant.1 ∙ ap (register_from b a.many 0) e;
      third = l.invariant.2 ∙ ap (register_from b (2 * a.many) 0) e;
      fourth = l.invariant.3 ∙ ap (register_from b (3 * a.many) 0) e;
    }
