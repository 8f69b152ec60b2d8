-- An agent lent as a row, saved as a snapshot's bytes and loaded from them: specs/Calls says what the two calls answer and leave.
-- - `save` answers 10, then 1, and writes the row's snapshot at the room's start; `load` answers 10, 11, then 1, and fills the row. Only a
--   row that is sound and whose state is within its limits is saved or loaded (`is_within`), and a refusal writes nothing: `RowSaves`,
--   `RowLoads`.
-- - What was saved loads as the same agent: proofs/SameAgent `is_saved`, `is_snapshot_lem`, `is_loaded`, of every agent whose arrays have their
--   lengths, whose sequence fits 32 bits and whose state is within its limits. Each number of its row fits 64 bits: proofs/Small
--   `packed_small`. Whatever row `save` accepts comes back from what it wrote: proofs/SameRow `row_comes_back`.
-- - So a box that loads a snapshot and takes the notices that follow is the agent that heard all of them in order, by value (specs/Taken
--   `taken_from`) and in place, number for number (`row_taken`): proofs/AfterLoading `loads_as_heard`, `goes_on`, `row_goes_on`. An agent after any
--   series of byte strings is one that a snapshot holds: `after_whole_lem`, `after_within`, `after_fits`.
-- - The length and the version that snapshots know are the layout's: proofs/SameLayout `same_places`, `same_version`.
-- No public call has a `requires`, and the contracts settle what is given back and every place lent, for all inputs: proofs/Unique.
-- What a row is stands in `agent_rows`, what a snapshot is in `snapshots`.
pub mod Calls
pub mod Taken
