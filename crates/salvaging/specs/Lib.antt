-- What is taken and what is skipped of a damaged log (02, request 8). `scanning` specs/Scan is 02's scan, step by step: `move_of` what is done at a
-- place, `stretch_joined` a skipped byte, `scan_to` so many steps, `scan_of` all of a log, with the taken notices, the kept bytes and the
-- skipped stretches. It asks only what the reader finds at a place, so a kind of notice that is added later counts with no change here.
-- `salvaging` specs/Claims has the words of the theorems, specs/Rows what the call leaves.
-- - Every byte is kept or skipped, none of them twice, in the log's order: proofs/Pieces `together` (what is kept is the input without the
--   bytes that lie in stretches), `all_bytes` (their numbers add up), `apart` (between two stretches something was kept, none is empty, and
--   all lie within the input).
-- - What is kept are notices as they stood, a log of its own with sequences that rise: proofs/Kept `unchanged`, `kept_gives`, `kept_rises`.
--   A second salvage finds nothing to skip: `again`.
-- - A log in order loses nothing: proofs/Tails `whole`, and `written_whole` of notices as they are written. What is sound from some notice
--   to the end comes out, over any bytes before it, with 02's two provisos (specs/Claims `Clear`): proofs/Tails `tail_comes_out`,
--   `written_tail`.
-- Input of any length, read in blocks, is the program `salvage`.
pub mod Claims
pub mod Rows
pub mod Pours
