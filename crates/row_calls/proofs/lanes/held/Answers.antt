-- `held` meets its contract: the row's length and its numbers, and then the count.
use mathlib.Core.Path.{sym, ◌∙◌}
use Rattle.rules.proofs.Tests.{both_l, both_r}
use Rattle.story.specs.Kept.{state_ok}
use Rattle.agent_rows.specs.Packed.{unpacked, row_sound}
use Rattle.row_calls.specs.inner.Steps.{Tested}
use Rattle.row_calls.proofs.Cells.{told, held_elsewhere, held_row_in, held_row_out}
use Rattle.row_calls.proofs.lanes.held.Tie as tie
use Rattle.row_calls.proofs.lanes.held.Lts as lts
use Rattle.row_calls.proofs.lanes.held.Reads as reads
use Rattle.row_calls.proofs.lanes.held.Goals as goal

-- past the tests the row is within its limits
tested : (c : lts.Then2 tie.the-claims reads.Pre reads.Post) → Tested c.args.row.now
tested c =
    let r = c.args.row.now in
    let ok = sym c.row_ok.ensures ∙ c.if-row_ok.true in
    record { long = c.if-row-ne-ROW_LENGTH.false; sound = both_l (row_sound r) (state_ok (unpacked r).state) ok; ok = both_r (row_sound r) (state_ok (unpacked r).state) ok }

pub returns-then-row-ne-ROW_LENGTH : goal.returns-then-row-ne-ROW_LENGTH
returns-then-row-ne-ROW_LENGTH c =
    let a = c.args in
    told c.unheld.ensures.0 c.unheld.ensures.1 (held_elsewhere a.row.now a.time c.if-row-ne-ROW_LENGTH.true)

pub counted-requires : goal.counted-requires
counted-requires c = tested c.before

pub returns-then-row_ok : goal.returns-then-row_ok
returns-then-row_ok c =
    let a = c.args in
    told c.counted.ensures.0 c.counted.ensures.1 (held_row_in a.row.now a.time (tested c.before.before))

pub returns : goal.returns
returns c =
    let long = c in
    let a = long.args in
    told c.unheld-2.ensures.0 c.unheld-2.ensures.1
    (held_row_out a.row.now a.time long.if-row-ne-ROW_LENGTH.false (sym c.row_ok.ensures ∙ c.if-row_ok.false))
