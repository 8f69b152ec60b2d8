-- What the plans give, what their calls answer and leave in the lent row, and the plan call's order of refusals as it stood before.
-- - Of a padded title: `plans::plan`, contract `Planned`; a cell is taken at the tick of the plan and at no other (proofs/padded/Places
--   `plan_only`).
-- - Of a skip-forward title (02, request 12): `plans::skip_plan`, contract `SkipPlanned`; each block is taken, once, at its first
--   occurrence and no later than its turn (proofs/forward/Places `in_time`, `only`, `none_sooner`). proofs/forward/Worked has four plans of
--   4 lanes.
-- - What the row then holds: proofs/Row, proofs/padded/Row, proofs/forward/Row.
pub mod Padded
pub mod Forward
pub mod Row
pub mod Former
pub mod inner
