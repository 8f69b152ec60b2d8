-- The tables of document 01 that every crate cites, the searches by which definitions speak, the numbers of a former release,
-- and what it means that a contract admits one outcome.
pub mod Limits
pub mod Refusals
pub mod Told
pub mod Search
pub mod Former
pub mod OneOutcome
