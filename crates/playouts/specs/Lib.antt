-- What the twelve lanes of a title carry over its latest opening in a log, tick by tick, as a text: what a modulator is fed, and a record
-- of the air as the program of that name reads it.
-- - The text is the definition's, for every pool, log, title and window of ticks: `playouts::put_playout`, contract `playout_text`. Each of
--   its numbers is what the lane question answers at its tick's start, once the events up to that very moment are counted (`airing`
--   specs/Own `own_number`).
-- - What is printed from tick 0 on is read back as the record of our own lane answers, is answered 0, and starves none: `playouts`
--   specs/Reads `AirReads`, shown in `playouts` proofs/AirReads `air_reads_it`.
-- - What is printed from a later tick on is the rest of what is printed from an earlier one: `playouts` proofs/Rest `rest`.
pub mod Playout
pub mod Lines
pub mod Reads
pub mod inner
