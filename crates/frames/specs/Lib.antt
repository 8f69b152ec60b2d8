-- What stands in a picture of a log whatever its notices are, as texts.
-- - Each part is written as its definition says: `frames::bands::put_bands`, contract `bands_text`; `frames::headings::put_heading`, contract
--   `heading_text`, and `frames::headings::put_pool`, contract `pool_lines`; `frames::times::put_times`, contract `times_text`.
pub mod Bands
pub mod Headings
pub mod Times
