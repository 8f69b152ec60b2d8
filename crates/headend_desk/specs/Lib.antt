-- The head-end's desk: one line, answered over an agent, and what the notices of its lines come to. specs/Journal is the page to read first;
-- `headend_desk::answer` meets the definitions that it is about (specs/Desk `head_after`, `head_text`, `head_notice`, `head_sum`).
-- - For any lines from a fresh agent of any pool, what is accepted is written and what is written is accepted, in the same order; played into
--   a fresh agent the journal gives the head-end's agent, and so does any number of its notices from the start, and the journal cut at any
--   byte; the sums are one for each notice: proofs/Journal `journal_kept`, which has every statement of `JournalKept`.
-- - The words fresh and notice are unknown, whatever stands behind them: proofs/FirstWord `first_word`; proofs/Example has lines computed.
-- - Where `has_room` says so, the rows hold all that a line writes: proofs/Room `rows_hold`.
-- No public call has a `requires`, and the contract of `answer` settles the desk and the three lent rows for all inputs: proofs/Unique.
pub mod Desk
pub mod Journal
