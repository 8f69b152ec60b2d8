-- `load` meets its contract: the snapshot's numbers are tested in a row of the call's own, and then copied.
use mathlib.Core.Path.{refl, sym, ◌∙◌}
use Rattle.row_snapshots.proofs.Answered.{load_other, load_none, load_outside, load_done}
use Rattle.row_snapshots.proofs.load.Goals as goal

pub returns-then-row-ne-ROW_LENGTH : goal.returns-then-row-ne-ROW_LENGTH
returns-then-row-ne-ROW_LENGTH c = load_other _ _ c.if-row-ne-ROW_LENGTH.true

pub returns-then-load-ne-DONE : goal.returns-then-load-ne-DONE
returns-then-load-ne-DONE c = load_none _ _ c.if-row-ne-ROW_LENGTH.false _ refl _ _ c.load.ensures c.if-load-ne-DONE.true

pub returns-then-row_ok : goal.returns-then-row_ok
returns-then-row_ok c =
    rw c.copy_from_slice.ensures.after
    (load_done _ _ c.if-row-ne-ROW_LENGTH.false _ refl _ _ c.load.ensures c.if-load-ne-DONE.false (sym c.row_ok.ensures ∙ c.if-row_ok.true))

pub returns : goal.returns
returns c =
    load_outside _ _ c.if-row-ne-ROW_LENGTH.false _ refl _ _ c.load.ensures c.if-load-ne-DONE.false (sym c.row_ok.ensures ∙ c.if-row_ok.false)
