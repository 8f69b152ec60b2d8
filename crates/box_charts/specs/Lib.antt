-- The picture of a box, over the places at which it takes its cells (`takings` specs/Takings `taking_place`): a mark for each cell that it takes,
-- its tick to the right and its cell upwards, in the shade of its lane, against the line at which cells play; below, how many cells it
-- keeps in each tick, with the most marked. Hovering over a mark tells the cell, the ticks and the lane.
-- - The picture is written as the definition says: `box_charts::put_picture`, contract `box_drawing` (specs/Picture).
-- - A mark lies left of the end of the tick in which its cell is taken, so none lies past the line of a cell that is taken in time:
--   proofs/Line `mark_in_time`.
pub mod Heading
pub mod Axes
pub mod Marks
pub mod Curve
pub mod Picture
