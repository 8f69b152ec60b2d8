-- What the story needs of a scheme, that both have it, and what follows for either.
pub mod Takes
pub mod Clock
pub mod Waits
pub mod Padded
pub mod SteadyLanes
pub mod Turns
pub mod Steady
pub mod ByKind
pub mod LawfulKinds
pub mod Lawful
