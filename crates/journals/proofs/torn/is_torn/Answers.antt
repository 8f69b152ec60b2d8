use Prim.Native.Nat.{◌≤◌}
use mathlib.Core.Path.{◌≡◌, sym, ap, ◌∙◌}
use native.Mathlib.Omega.{arith}
use lib.ListN.{length}
use lib.Seq.{length-take-le, length-sets}
use Rattle.journals.proofs.Endings.{longest, room_holds, torn_is, not_torn}
use Rattle.journals.proofs.torn.is_torn.Goals as goal

pub put_rows-requires : goal.put_rows-requires
put_rows-requires c = longest _

pub lay_over-requires : goal.lay_over-requires
lay_over-requires c =
    let put = c in
    let test = put in
    let size : length put.put_rows.new.room ≡ 45 = ap length put.put_rows.ensures ∙ simp length-sets in
    omega (arith, size, test.if-rest-whole.true, test.start-whole.ensures, longest test.kind_begun-kind.result)

pub slice_bounds-room-end : goal.slice_bounds-room-end
slice_bounds-room-end c =
    let put = c in
    let test = put in
    let size : length put.put_rows.new.room ≡ 45 = ap length put.put_rows.ensures ∙ simp length-sets in
    let fits : test.start-whole.result ≤ length put.put_rows.new.room =
    omega (arith, size, test.start-whole.ensures, longest test.kind_begun-kind.result) in
    room_holds test.args.rest.now put.put_rows.new.room _ _ test.if-rest-whole.true fits c.lay_over.ensures

pub slice_bounds-alone-end : goal.slice_bounds-alone-end
slice_bounds-alone-end c =
    let put = c in
    let test = put in
    let size : length put.put_rows.new.room ≡ 45 = ap length put.put_rows.ensures ∙ simp length-sets in
    let fits : test.start-whole.result ≤ length put.put_rows.new.room =
    omega (arith, size, test.start-whole.ensures, longest test.kind_begun-kind.result) in
    sym (length-take-le _ _ (room_holds test.args.rest.now put.put_rows.new.room _ _ test.if-rest-whole.true fits c.lay_over.ensures))

pub returns-then-rest-whole : goal.returns-then-rest-whole
returns-then-rest-whole c =
    let laid = c in
    let put = laid in
    let test = put in
    torn_is _ _ _ test.kind_begun-kind.ensures test.start-whole.ensures _ _ _ _ test.if-rest-whole.true (longest _)
    (rw put.from.ensures at put.put_rows.ensures) laid.lay_over.ensures c.alone.ensures

pub returns : goal.returns
returns c =
    not_torn _ _ _ c.kind_begun-kind.ensures c.start-whole.ensures c.if-rest-whole.false
