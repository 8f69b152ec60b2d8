-- What is shown of the start of a head-end.
pub mod Endings
pub mod StepCases
pub mod StartSteps
pub mod WholeFiles
pub mod Cutting
pub mod Outcomes
pub mod RowsFollow
pub mod SumsMade
pub mod TornEnds
pub mod Restarts
pub mod HeadEndKeeps
pub mod AfterKill
pub mod Unique
