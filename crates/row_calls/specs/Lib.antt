-- The calls on an agent that a caller lends as a row of numbers (`agent_rows`), in place: the state is not copied, and its numbers are
-- tested once for each call. Each answer, and each row afterwards, is the agent's own through `unpacked` and `packed`, for every row:
-- `row_calls` specs/Answers. A row of another length gets 10, one that is not sound 1, and a refusal leaves the row as it was.
-- - An event: `row_calls::events::event`, by `row_event` and `row_after_event`. It leaves the sequence as it was.
-- - A notice's bytes: `row_calls::notices::take`, by `row_notice` and `row_after_notice`. An accepted one moves the sequence.
--   A row that is known to be within its limits takes a notice without a test, `row_calls::notices::heed_tested`: so a log is played.
-- - A fresh agent of a pool, whatever the row was: `row_calls::starting::fresh`, by `row_fresh` and `row_after_fresh`.
-- - The lane question and lanes held: `row_calls::lanes::lane`, by `row_lane` and `row_shows`; `row_calls::lanes::held`, by `row_held`
--   and `row_lanes`.
-- - Status over flat rows: `row_calls::titles::status`, by `row_status` and the definitions of status itself.
-- A sound row of the right length is answered and left as its agent is: proofs/Follows `noticed_as_agent`, `called_as_agent`; and the agent of
-- the row that is left is the agent that is left: proofs/Whole `agent_after_notice`, `agent_after_event`.
-- Two outcomes that a call's contract admits are equal, the row that it leaves included: proofs/Unique.
pub mod Answers
pub mod inner
