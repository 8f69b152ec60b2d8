-- The planner's list and the small box's lane question, asked of an agent that a caller lends as a row: what each answers, by the call's own
-- definition of the state that the row stands for (specs/Questions `state_in`). proofs/Unique: one outcome each.
pub mod Questions
