-- `window::row_begins` meets its contract: by whether the kind carries the row.
use native.Mathlib.Omega.{arith}
use Rattle.notice_fields.proofs.Table.{row_inside, longest_kind}
use Rattle.notice_bytes.specs.Window.{row_begins}
use Rattle.notice_bytes.proofs.window.row_begins.Goals as goal

pub head_begins-requires : goal.head_begins-requires
head_begins-requires c =
    let begun = c in
    let a = begun.args in
    let inside = row_inside a.kind a.row begun.requires.0 in
    (begun.requires.0, (begun.requires.1, omega (arith, inside, longest_kind a.kind, c.start.ensures)))

pub returns-then-carried : goal.returns-then-carried
unfolding row_begins
returns-then-carried c = rw (← c.carried.ensures, c.if-carried.true, ← c.start.ensures) c.head_begins.ensures

pub returns-else-carried : goal.returns-else-carried
unfolding row_begins
returns-else-carried c = rw (← c.carried.ensures, c.if-carried.false)
