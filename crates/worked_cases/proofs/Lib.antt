-- The one claim about the worked cases.
pub mod Cases
