-- Lanes held as a step curve.
-- - What is drawn between two events is written as its definition says: `curves::put_curve`, contract `curve_text`. Each step is as high as
--   the lanes held at its start, by `story` specs/Kept `lanes_held`.
pub mod Curves
