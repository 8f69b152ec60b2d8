-- The library that head-ends and boxes link: every public call over lent rows, with the prefix rl_ and the suffix _row; `rongalishu_c` exports
-- each to C, with the same clauses. Each contract is that of the call beneath, of the agent that a row is (`agent_rows` specs/Packed `unpacked`), and settles every lent
-- row for all inputs.
-- - A fresh agent, the six events and a notice taken: `row_calls` specs/Answers. An event leaves the sequence alone.
-- - The lane question, lanes held and the small box's lane: `row_calls` specs/Answers and `row_questions` specs/Questions, with the number in
--   a result row (`rongalishu` specs/Results `OneGiven`).
-- - Status: `row_calls` specs/Answers; the planner: `row_questions` specs/Questions and `rongalishu` specs/Pools. Plans and sharing have their own calls' contracts.
-- - Notices written, read and found in a log: `notice_rows` specs/Calls and `rongalishu` specs/Notices. Waits, air, admissions and salvage:
--   `rongalishu` specs/Reports.
-- - Snapshots saved and loaded: `row_snapshots` specs/Calls.
-- A result row that is too short is 10, before all else, and a refusal writes nothing: `rongalishu` specs/Results `needing`, `resulting`.
-- proofs/Unique: two outcomes that a contract admits are equal, in the answer and in every lent row.
pub mod Results
pub mod Notices
pub mod Pools
pub mod Reports
