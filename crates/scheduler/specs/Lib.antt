-- What the calls give back besides what the story of events defines.
pub mod Outcomes
