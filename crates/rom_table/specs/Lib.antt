-- The table by which the small box answers (02, request 6). specs/Table has the box's floor, its cap, what stands at each place of
-- the table, by `grid` specs/Lanes `lane_cell`, and what filling a lent row with it settles.
-- - The table is the grid: `rom_table::cells`, at each of the 5,120 places, from one test that the checker computes over the numbers of
--   the source (`rom_table` specs/Table `passes`; proofs/Entries `passes_at`, `table_of`); and so is a row that was filled (`filled_table`). So at any
--   tick, since lanes repeat after 2^(K-1) ticks: proofs/Entries `table_cell_lem`, by `scheme` specs/Lawful `repeats` and proofs/Lawful `lane_looked_up`.
pub mod Table
