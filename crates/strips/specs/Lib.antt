-- The strips that a log of notices leaves in a picture, as texts: the stretches of its titles' lanes and of their doors; where a moment lies
-- across the picture, and the numbers that are kept beside the agent for all that is drawn.
-- - Each strip is written as its definition says, and the row that is kept is the definition's: `strips::lanes::put_lanes`, contract `lanes_marks`
--   and `lanes_kept`; `strips::doors::put_doors`, contract `doors_mark` and `doors_kept`.
pub mod Scale
pub mod Kept
pub mod States
pub mod Lanes
pub mod Doors
