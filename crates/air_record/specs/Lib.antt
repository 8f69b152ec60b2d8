-- The record of the air that a text spells.
pub mod Record
