-- `laying::put_field` meets its contract: three stores after one another are the field.
use mathlib.Core.Path.{◌∙◌}
use native.Mathlib.Omega.{arith}
use lib.ListN.{length-set}
use Rattle.notice_bytes.proofs.Laid.{field_laid}
use Rattle.notice_bytes.proofs.laying.put_field.Goals as goal

pub put-requires : goal.put-requires
put-requires c = simp length-set (omega arith)

pub put-requires-2 : goal.put-requires-2
put-requires-2 c =
    let laid = c in
    let row = laid in
    rw (laid.put.auto.room, length-set, row.entry-f.ensures) (omega (arith, row.requires))

pub shape_of-room : goal.shape_of-room
shape_of-room c =
    let laid = c in
    laid.put-2.auto.room ∙ (laid.put.auto.room ∙ simp length-set)

pub returns : goal.returns
returns c =
    let laid = c in
    let sized = laid in
    laid.put-2.ensures ∙ rw (sized.put.ensures, sized.entry-f.ensures) (field_laid _ _ _ _)
