-- The box that begins at a moment of a title, over its latest opening in a log that is played into a fresh agent: whether it may begin then,
-- when it could at the earliest, and its picture.
-- - The picture is the definition's, for every pool, log, title and moment: `log_boxes::put_box`, contract `box_text` (specs/Box). Its numbers
--   are what the lane question answers at each tick's start, once the events up to that very moment are counted (`playouts` specs/Playout
--   `playout_number`).
-- - At a moment that is no admission nothing is drawn, and the next admission is told: `log_boxes::beginning_of`, contract `BeginsAt`.
-- - No mark of the picture lies past the line: every cell that holds film is taken no later than its turn, of titles of both kinds:
--   specs/InTime `EveryCellInTime`, shown in proofs/InTime `every_cell_in_time`.
pub mod Box
pub mod InTime
pub mod inner
