-- The marks that a log of notices leaves beside its strips, as texts: accepted notices, the lives of titles, and refused notices.
-- - Each mark is written as its definition says, and the row that is kept is the definition's: `marks::ticks::put_tick`, contract `tick_text`
--   and `tick_kept`; and so of lives, refusals and labels in specs/Marks.
pub mod Notices
pub mod Marks
