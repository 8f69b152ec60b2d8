-- The planner's list over rates by id, as lines that can be entered (specs/Balance `balance_text`). In every state that accepted events
-- reach, each of its lines, read as a line of the console, is the change that it was printed for (specs/Entered `Enters`): proofs/Balanced
-- `balanced`; so the planner's promise holds of the lines (`planner` specs/Promise). Two outcomes of a call here are equal:
-- `text` proofs/Unique `puts_one_outcome`.
pub mod Rates
pub mod Balance
pub mod Entered
