-- The limits of the numbers that lines have, by name: specs/Quantities has the name and the limits of every number of a line, once; specs/Outside
-- which of a line's numbers is out of them, in words; specs/Asked what stands behind the refusal of a question, by `limit_reason` and
-- `asked_reason`. That the number that is named is the first that is out, and that where none is named the state is: `SaysOut`, shown in
-- proofs/Naming `by_limits` for every question. That two outcomes of a call here are equal: `text` proofs/Unique `puts_one_outcome`.
pub mod Quantities
pub mod Outside
pub mod Asked
