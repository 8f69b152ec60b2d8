-- `rom_lane` meets its contract: the lengths first, and then the table's number at the tick whose cell goes out.
-- Rests on the laws of answered questions.
use mathlib.Core.Path.{sym, ap, ◌∙◌}
use Rattle.questions.proofs.Lane.{lane_capped}
use Rattle.rom_table.specs.Table.{table_cell}
use Rattle.rom.proofs.Answered.{rom_answered, rom_own, own_capped}
use Rattle.agent_rows.specs.Packed.{unpacked}
use Rattle.row_calls.proofs.Cells.{told}
use Rattle.row_questions.proofs.Asking.{told_sound, rom_elsewhere, rom_untabled, rom_told, rom_shown, rom_not_shown}
use Rattle.row_questions.proofs.small.rom_lane.Goals.{then-row-ne-ROW_LENGTH-via-then-row-ne-ROW_LENGTH, then-row-ne-ROW_LENGTH-via-else-row-ne-ROW_LENGTH+then-table-ne-ENTRIES}
use Rattle.row_questions.proofs.small.rom_lane.Goals as goal

pub returns-then-row-ne-ROW_LENGTH : goal.returns-then-row-ne-ROW_LENGTH
returns-then-row-ne-ROW_LENGTH c =
    told c.refused.ensures.0 c.refused.ensures.1
    (elim c.then-row-ne-ROW_LENGTH.branch [
      | then-row-ne-ROW_LENGTH-via-then-row-ne-ROW_LENGTH w ↦ rom_elsewhere _ _ _ _ _ w.if-row-ne-ROW_LENGTH.true
      | then-row-ne-ROW_LENGTH-via-else-row-ne-ROW_LENGTH+then-table-ne-ENTRIES w ↦
          rom_untabled _ _ _ _ _ w.if-row-ne-ROW_LENGTH.false w.if-table-ne-ENTRIES.true
    ])

pub cell_at-requires : goal.cell_at-requires
cell_at-requires c =
    let a = c.args in
    let s = (unpacked a.row.now).state in
    let none = told_sound a.row.now a.id a.lane a.time (sym c.rom_tick-shown.ensures.0 ∙ c.if-answer-eq-DONE.true) in
    let own = rom_own s a.id a.lane a.time none in
    record { table_len = c.if-table-ne-ENTRIES.false; lane_lt_rom_cap = own_capped _ own a.lane (lane_capped s a.id a.lane a.time (rom_answered s a.id a.lane a.time none)) }

pub returns-then-answer-eq-DONE : goal.returns-then-answer-eq-DONE
returns-then-answer-eq-DONE c =
    let a = c.args in
    let same = c.rom_tick-shown.ensures.0 ∙ rom_told _ _ _ _ _ c.if-row-ne-ROW_LENGTH.false c.if-table-ne-ENTRIES.false in
    let none = sym same ∙ c.if-answer-eq-DONE.true in (
      sym none,
      c.from.ensures
          ∙ c.cell_at.ensures
          ∙ ap (table_cell a.table.now a.lane) (c.rom_tick-shown.ensures.1 c.if-answer-eq-DONE.true)
          ∙ rom_shown a.row.now a.table.now a.id a.lane a.time none,
    )

pub returns : goal.returns
returns c =
    let a = c.args in
    let same = c.rom_tick-shown.ensures.0 ∙ rom_told _ _ _ _ _ c.if-row-ne-ROW_LENGTH.false c.if-table-ne-ENTRIES.false in (
      c.refused-2.ensures.0 ∙ same,
      c.refused-2.ensures.1 ∙ rom_not_shown a.row.now a.table.now a.id a.lane a.time (λ e. c.if-answer-eq-DONE.false (same ∙ e)),
    )
