-- `write` meets its contract: each way out has decided its case, and a notice's row is laid from its own numbers.
use mathlib.Core.Path.{sym, ◌∙◌}
use Rattle.notice_rows.proofs.Answered.{not_eight, too_short, no_notice, whole_row}
use Rattle.notice_rows.proofs.Rows.{known_row}
use Rattle.notice_rows.proofs.Widths.{known_small}
use Rattle.notice_rows.proofs.write.Goals as goal

pub returns-then-fields-ne-ROWS : goal.returns-then-fields-ne-ROWS
returns-then-fields-ne-ROWS c = rw c.refused.ensures (not_eight _ _ c.if-fields-ne-ROWS.true)

pub returns-then-room-size : goal.returns-then-room-size
returns-then-room-size c =
    let sized = c in
    rw c.refused-then-room-size.ensures
    (too_short _ _ sized.if-fields-ne-ROWS.false (rw sized.size_of-size.ensures at c.if-room-size.true))

pub overflow_cast-kind : goal.overflow_cast-kind
overflow_cast-kind c =
    let tested = c in
    record { fits = known_small _ (known_row _ (sym tested.is_notice.ensures ∙ tested.if-is_notice.true)) }

pub returns-then-is_notice : goal.returns-then-is_notice
returns-then-is_notice c =
    let laid = c in
    let tested = laid in
    let long = tested in
    let sized = long in
    rw (laid.put_rows.ensures, laid.eight.ensures, sized.size_of-size.ensures)
    (whole_row _ _ sized.if-fields-ne-ROWS.false (rw sized.size_of-size.ensures at long.if-room-size.false)
    (sym tested.is_notice.ensures ∙ tested.if-is_notice.true))

pub returns : goal.returns
returns c =
    let tested = c in
    let long = tested in
    let sized = long in
    rw c.refused-2.ensures
    (no_notice _ _ sized.if-fields-ne-ROWS.false (rw sized.size_of-size.ensures at long.if-room-size.false)
    (sym tested.is_notice.ensures ∙ tested.if-is_notice.false))
