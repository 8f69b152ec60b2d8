-- A notice as a row of eight numbers, one for each field of the table. specs/Rows has the row of a notice (`fields_of`), the notice of a row
-- (`notice_from`) and which rows are a notice's (`is_notice_row`); specs/Calls what the calls answer and leave, by the definitions of a
-- notice's bytes, of what bytes read as and of a log's next.
-- - Notices and their rows are each other's: proofs/Rows `from_fields` (the row of a notice gives that notice), `notice_row` (it is a
--   notice's to the number), `fields_from` (the notice of such a row has that row). A number at a place that the kind does not have is not
--   looked at, and is not in the notice: `own_number_lem`.
-- - What `write` writes, `read` reads as the row that was written: proofs/Rows `row_reads`, `row_comes_back`.
-- - 10 comes before 1: a room is too short for a known kind alone, since a number that is no kind's asks for no byte (proofs/Widths
--   `needs_none`).
-- No public call has a `requires`. The contracts of `write`, `read` and `next` (`WritesRow`, `ReadsRow`, `StepsRow`) settle what is given
-- back and every place lent, for all inputs: proofs/Unique.
pub mod Rows
pub mod Calls
pub mod inner
