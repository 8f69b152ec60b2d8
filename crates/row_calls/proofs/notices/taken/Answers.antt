-- `taken` meets its contract: the row's length, what the bytes read as, and then the notice.
use mathlib.Core.Path.{sym, ◌∙◌}
use Rattle.row_calls.proofs.Heeded.{heeds_as, notice_elsewhere, no_notice}
use Rattle.row_calls.proofs.notices.taken.Goals as goal

pub returns-then-row-ne-ROW_LENGTH : goal.returns-then-row-ne-ROW_LENGTH
returns-then-row-ne-ROW_LENGTH c = notice_elsewhere _ _ c.if-row-ne-ROW_LENGTH.true

pub returns-in-Whole : goal.returns-in-Whole
returns-in-Whole c = heeds_as _ _ _ _ _ (sym c.read-read.ensures.is ∙ c.in-Whole.is) c.heed.ensures

pub returns-in-Malformed : goal.returns-in-Malformed
returns-in-Malformed c =
    heeds_as _ _ _ _ _ (sym c.read-read.ensures.is ∙ c.in-Malformed.is) (no_notice _ c.if-row-ne-ROW_LENGTH.false)
