-- `lane` meets its contract: a question that is answered shows the table's number at the tick whose cell goes out.
-- Rests on the laws of answered questions.
use Rattle.std.proofs.Common.{◌≤◌, refl, sym, ap, ◌∙◌, arith}
use Rattle.rules.proofs.Told.{some_number}
use Rattle.grid.specs.Bounds.{tick_max}
use Rattle.questions.proofs.Lane.{lane_id, lane_time, lane_film, lane_sending, lane_capped}
use Rattle.rom_table.specs.Table.{table_cell}
use Rattle.rom.proofs.Answered.{rom_answered, rom_own, own_capped, table_long, table_answered, table_shown, table_unshown}
use Rattle.rom.proofs.lanes.lane.Goals as goal

pub title_of-t-requires : goal.title_of-t-requires
title_of-t-requires c =
    let a = c.args in
    lane_id a.s a.id a.lane a.time (rom_answered a.s a.id a.lane a.time (table_answered _ _ _ _ _ (sym c.in-Ok.ensures)))

pub tick_at-requires : goal.tick_at-requires
tick_at-requires c =
    let a = c.args in
    rw c.title_of-t.ensures
    (lane_film a.s a.id a.lane a.time (rom_answered a.s a.id a.lane a.time (table_answered _ _ _ _ _ (sym c.in-Ok.ensures))))

pub shown_tick-tick-requires : goal.shown_tick-tick-requires
shown_tick-tick-requires c =
    let a = c.args in
    let same = rom_answered a.s a.id a.lane a.time (table_answered _ _ _ _ _ (sym c.in-Ok.ensures)) in
    let early : c.tick_at.result ≤ tick_max = omega (arith, c.tick_at.ensures.high, lane_time a.s a.id a.lane a.time same) in
    rw c.title_of-t.ensures
    record { sending = lane_sending a.s a.id a.lane a.time same; lane_lt_cap = (lane_capped a.s a.id a.lane a.time same, early) }

pub cell_at-requires : goal.cell_at-requires
cell_at-requires c =
    let a = c.args in
    let none = sym c.in-Ok.ensures in
    let asked = table_answered a.table.now a.s a.id a.lane a.time none in
    let own = rom_own a.s a.id a.lane a.time asked in
    record {
      table_len = table_long a.table.now a.s a.id a.lane a.time none;
      lane_lt_rom_cap = own_capped _ own a.lane (lane_capped a.s a.id a.lane a.time (rom_answered a.s a.id a.lane a.time asked));
    }

pub returns-in-Ok : goal.returns-in-Ok
returns-in-Ok c =
    let a = c.args in
    let u = c.shown_tick-tick.ensures.is in (
      c.in-Ok.ensures,
      c.from.ensures
          ∙ c.cell_at.ensures
          ∙ ap (table_cell a.table.now a.lane) (u ∙ rw (c.tick_at.ensures.is, c.title_of-t.ensures) refl)
          ∙ table_shown a.table.now a.s a.id a.lane a.time (sym c.in-Ok.ensures),
    )

pub returns-in-Err : goal.returns-in-Err
returns-in-Err c =
    let a = c.args in (
      c.number.ensures ∙ c.in-Err.ensures,
      table_unshown a.table.now a.s a.id a.lane a.time (λ e. some_number c.in-Err.refusal (c.in-Err.ensures ∙ e)),
    )
