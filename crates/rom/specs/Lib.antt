-- What the small box answers (02, request 6), by the table of `rom_table`, which a caller lends. `rom` specs/Lanes and Plan have its two calls,
-- each the computing call's definition with one rule in front, and each again over a lent table with any contents: a cell is then the
-- number that stands at its lane and tick.
-- - By a row that was filled the answers are the small box's: `rom` proofs/Answered `table_lane` and proofs/Planned `table_plan`.
-- - The two boxes agree: proofs/Unique `lanes_agree`, of any outcome of this lane question by a filled table and any of the scheduler's, for
--   every state, id, lane and time where the title has floor 3 and cap 10, sending lanes included; `plans_agree`, of answer and row, for every
--   count, arrival and row. Lanes 10 and 11 and counts 11 and 12, which are within the limits, are included. proofs/Answered `same_answer`,
--   `same_cell` and proofs/Planned `same_plan` say it of the definitions.
-- - A cell's plan tick is its first showing on lanes 0 to k - 1: proofs/Showing `seen_plan`, once over floor, cap and count.
pub mod Showing
pub mod Plan
pub mod Lanes
