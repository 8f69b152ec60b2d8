-- `entered` meets its contract: the row's length and its numbers, and then the event.
use mathlib.Core.Path.{sym, ◌∙◌}
use Rattle.row_calls.proofs.Rows.{event_elsewhere, event_row_out, event_row_in, tested_row}
use Rattle.row_calls.proofs.events.entered.Goals as goal

pub returns-then-row-ne-ROW_LENGTH : goal.returns-then-row-ne-ROW_LENGTH
returns-then-row-ne-ROW_LENGTH c =
    let a = c.args in
    let p = event_elsewhere a.row.now a.e c.if-row-ne-ROW_LENGTH.true in
    record { value = p.0; row_after = p.1 }

pub returns-then-not-row_ok : goal.returns-then-not-row_ok
returns-then-not-row_ok c =
    let a = c.args in
    let p = event_row_out a.row.now a.e c.if-row-ne-ROW_LENGTH.false (sym c.row_ok.ensures ∙ c.if-not-row_ok.true) in
    record { value = p.0; row_after = p.1 }

pub put_event-requires : goal.put_event-requires
put_event-requires c = tested_row c.args.row.now c.if-row-ne-ROW_LENGTH.false (sym c.row_ok.ensures ∙ c.if-not-row_ok.false)

pub returns : goal.returns
returns c =
    let a = c.args in
    let tested = tested_row a.row.now c.if-row-ne-ROW_LENGTH.false (sym c.row_ok.ensures ∙ c.if-not-row_ok.false) in
    let p = event_row_in a.row.now a.e tested _ _ c.put_event.ensures.value c.put_event.ensures.row_after in
    record { value = p.0; row_after = p.1 }
