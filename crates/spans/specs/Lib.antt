-- Over which time a log of notices is drawn, and the rows of each id.
-- - `spans::measure` gives the definition's numbers for every log (`measure_of`): they follow from the log's accepted events alone.
pub mod Extents
