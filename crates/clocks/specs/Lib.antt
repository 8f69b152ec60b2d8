-- Times as people write them (specs/Clocks): what is written for a number of milliseconds, which `put_clock` writes (`clock_text`), which
-- words are times, and of how many milliseconds (`is_clock`, `clock_ms`), as `reading::is_clock` and `reading::clock` answer. What is
-- written is a time and is read as the number that it was written for, for every 64-bit number: proofs/Back `written_is_clock`
-- and `read_back`.
pub mod Clocks
