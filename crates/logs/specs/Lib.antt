-- How a log is played into a fresh agent that is kept in a row and changed in place, and what is kept of one title on the way. The row is
-- tested at no notice: that every agent told notices is within its limits is proofs/Lives `told_ok`.
pub mod Reading
