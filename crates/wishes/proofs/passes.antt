-- Of the passes that collect wishes.
pub mod Laws
pub mod Both
