-- What a question of a title's lanes that is answered gives, in which tick each of its entries stands, what is known of a title
-- that is there, and until when a lane that still sends is held.
pub mod Answered
pub mod Ticks
pub mod Slots
pub mod Standing
pub mod Until
