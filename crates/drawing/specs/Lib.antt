-- The pieces of an SVG picture as texts, and the place of a moment in it. Places and sizes are in tenths of a pixel.
-- - Each piece is written as its definition says, for every number: the calls of `drawing::pieces` (specs/Pieces), of
--   `drawing::document` (specs/Document) and `drawing::axis::put_time_mark` (specs/Axis `time_mark_text`). A class is a name of the sheet,
--   specs/Document `sheet`.
-- - A place on the axis is exactly `x_of`, and never left of the plot's left edge nor right of its right one: `drawing::axis::x_of`.
pub mod Pieces
pub mod Document
pub mod Axis
