use Prim.Native.Nat.{◌≤◌}
use mathlib.Core.Path.{sym}
use native.Mathlib.Omega.{arith}
use lib.ListN.{replicate, length-set}
use lib.Seq.{length-take-le}
use Rattle.journals.proofs.Endings.{longest, kind_room, kind_sum, other_length}
use Rattle.journals.proofs.torn.is_kind.Goals as goal

pub lay_over-requires : goal.lay_over-requires
lay_over-requires c =
    let test = c in
    omega (arith, test.if-rest-size.true, test.start-size.ensures, longest test.args.kind)

pub slice_bounds-room-end : goal.slice_bounds-room-end
slice_bounds-room-end c =
    let test = c in
    let fits : test.start-size.result ≤ 45 = omega (arith, test.start-size.ensures, longest test.args.kind) in
    rw length-set (kind_room test.args.rest.now (replicate 45 0) _ _ test.if-rest-size.true fits c.lay_over.ensures)

pub slice_bounds-sum-end : goal.slice_bounds-sum-end
slice_bounds-sum-end c =
    let test = c in
    let fits : test.start-size.result ≤ 45 = omega (arith, test.start-size.ensures, longest test.args.kind) in
    sym (length-take-le _ _ (rw length-set (kind_room test.args.rest.now (replicate 45 0) _ _ test.if-rest-size.true fits c.lay_over.ensures)))

pub returns-then-rest-size : goal.returns-then-rest-size
returns-then-rest-size c =
    let laid = c in
    let test = laid in
    rw c.from.ensures (kind_sum _ _ _ _ test.start-size.ensures _ _ _ test.if-rest-size.true laid.lay_over.ensures c.sum.ensures)

pub returns : goal.returns
returns c = other_length _ _ _ _ c.start-size.ensures c.if-rest-size.false
