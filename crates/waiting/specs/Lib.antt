-- The report of waits over a log of notices and a row of arrivals (02, request 1), and how the code goes through the log. The log is played
-- into a fresh agent (`agent` specs/Played: the notices that count `heard_of`, their events `events_played`, the agent they leave
-- `agent_played`); `waiting` specs/Report takes the title's life of those events, and `admissions` specs/Waits says what the row comes to in
-- it.
-- - The report's numbers are the tally of that life, for every log and row: `waiting::report_of`, contract `Reports`. Every number fits,
--   with no hypothesis on the log.
-- - Whether the log never opens the title, which turns all arrivals away: `waiting::reasons::never_opened`, contract `is_never_opened`.
-- - Where both orders of two events at one moment are accepted, the logs that a head-end keeps of them (`agent` specs/Series `log_kept`)
--   have equal reports: `waiting` proofs/OneMoment `reports_alike` (02, request 14).
pub mod Report
pub mod Reasons
pub mod inner
