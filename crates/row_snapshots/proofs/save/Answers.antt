-- `save` meets its contract: a row that is tested is saved by the call below.
use mathlib.Core.Path.{sym, ◌∙◌}
use Rattle.row_snapshots.proofs.Answered.{save_other, save_short, save_outside, save_done}
use Rattle.row_snapshots.proofs.save.Goals.{then-row-ne-ROW_LENGTH-via-then-row-ne-ROW_LENGTH, then-row-ne-ROW_LENGTH-via-else-row-ne-ROW_LENGTH+then-room-lt-BYTES}
use Rattle.row_snapshots.proofs.save.Goals as goal

pub returns-then-row-ne-ROW_LENGTH : goal.returns-then-row-ne-ROW_LENGTH
returns-then-row-ne-ROW_LENGTH c =
    elim c.then-row-ne-ROW_LENGTH.branch [
      | then-row-ne-ROW_LENGTH-via-then-row-ne-ROW_LENGTH w ↦ save_other _ _ w.if-row-ne-ROW_LENGTH.true
      | then-row-ne-ROW_LENGTH-via-else-row-ne-ROW_LENGTH+then-room-lt-BYTES w ↦
          save_short _ _ w.if-row-ne-ROW_LENGTH.false w.if-room-lt-BYTES.true
    ]

pub returns-then-row_ok : goal.returns-then-row_ok
returns-then-row_ok c =
    save_done _ _ c.if-row-ne-ROW_LENGTH.false c.if-room-lt-BYTES.false (sym c.row_ok.ensures ∙ c.if-row_ok.true) _ _ c.save.ensures

pub returns : goal.returns
returns c =
    save_outside _ _ c.if-row-ne-ROW_LENGTH.false c.if-room-lt-BYTES.false (sym c.row_ok.ensures ∙ c.if-row_ok.false)
