-- Laws of what is owed in stretches.
pub mod Counted
pub mod Found
pub mod FilmCells
pub mod OneChannel
pub mod OnLanes
pub mod Turning
pub mod Walked
pub mod Steps
pub mod LatestBoxes
pub mod Slots
pub mod LowSlots
pub mod LowSteps
pub mod FromFloorUp
pub mod BelowFloor
