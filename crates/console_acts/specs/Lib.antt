-- The event of a line, what it does to the agent, what its refusal names, and the notice that it writes.
pub mod Events
pub mod Acts
pub mod Named
pub mod Writing
