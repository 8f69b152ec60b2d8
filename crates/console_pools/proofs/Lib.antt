-- Laws of what was asked of a pool and where its answer stands, and of the columns of a line; and that 1 says what is so of the planner
-- (`planner_out`) and of a sharing (`share_out`).
pub mod Answered
pub mod Numbers
pub mod Listed
pub mod Limits
