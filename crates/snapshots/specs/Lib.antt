-- A row of numbers as stored bytes: an agent's row of 756 numbers of 64 bits, the layout's version first, each as eight bytes big-endian, and
-- behind them the checksum of all of them, 6,052 bytes in all. specs/Bytes has the bytes of a row (`snapshot_of`), the numbers that bytes
-- spell (`numbers_in`) and which bytes are a snapshot (`is_snapshot`); specs/Calls what the calls answer and leave.
-- - What was saved loads as the same row: proofs/ComesBack `saved_fits`, `saved_loads`, and of the call `comes_back`, for every row of an
--   agent's length and version (`AgentRow`).
-- - Bytes that load are what saving the row that they load as would write: `loaded_saves`. So a row has one snapshot.
-- - 11 is for bytes of another length, with another sum, or of another version. That the numbers are within their limits is not asked
--   here: the crate above loads into a row of its own, tests it, and hands it on.
-- No public call has a `requires`. The contracts of `save`, `fits` and `load` (`Saves`, `is_snapshot`, `Loads`) settle what is given back and
-- every place lent, for all inputs: proofs/Unique.
pub mod Bytes
pub mod Calls
