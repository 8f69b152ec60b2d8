-- What holds of an agent over any series of notices.
pub mod Turns
pub mod Order
pub mod OneLog
pub mod Boxes
pub mod Overtaken
pub mod Alike
pub mod HeadEnd
pub mod OneMoment
pub mod OneMomentExample
pub mod Played
pub mod Unique
