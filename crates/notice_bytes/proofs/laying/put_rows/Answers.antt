-- `laying::put_rows` meets its contract: the rows passed stand from the start on, and the next one starts after them.
-- Rests on the table's bounds and on the law of one row more.
use mathlib.Core.Path.{◌≡◌, refl, ◌∙◌}
use native.Mathlib.Numerals.{add-one}
use native.Mathlib.Omega.{arith}
use lib.Seq.{length-sets}
use Rattle.notice_fields.specs.Fields.{start_of}
use Rattle.notice_bytes.specs.Laying.{bytes_to}
use Rattle.notice_fields.proofs.Table.{start_small, span_small, row_inside}
use Rattle.notice_bytes.proofs.Laid.{row_laid}
use Rattle.notice_bytes.proofs.laying.put_rows.Goals as goal

pub loop-i-init : goal.loop-i-init
unfolding start_of bytes_to
loop-i-init c = (refl, refl)

pub put_row-requires : goal.put_row-requires
put_row-requires c =
    let at = c in
    let l = at.loop-i.invariant in
    let start = at in
    let inside = row_inside start.args.kind at.loop-i.i (omega arith) in
    (omega arith, rw (l.1, length-sets) (omega (arith, l.0, inside, start.requires)))

pub overflow_add-at : goal.overflow_add-at
overflow_add-at c =
    let at = c in
    let k = at.args.kind in
    let i = at.loop-i.i in
    omega (arith, at.loop-i.invariant.0, c.span-at.ensures, start_small k i (omega arith), span_small k i (omega arith))

pub loop-i-preserved : goal.loop-i-preserved
unfolding start_of
loop-i-preserved c =
    let l = c.loop-i.invariant in (
      rw add-one (omega (arith, l.0, c.span-at.ensures)),
      rw (add-one, c.put_row.ensures, l.1, l.0) (row_laid _ _ _ _),
    )

pub shape_of-room : goal.shape_of-room
shape_of-room c = rw (c.loop-i.invariant.1, length-sets)

pub returns : goal.returns
returns c =
    let e : c.loop-i.i ≡ 8 = omega arith in
    c.loop-i.invariant.1 ∙ rw e
