-- What the events mean, told from their sequence alone, and what the scheduler keeps of them. specs/Demands is the page to read first:
-- demand 3, and what the state says of it. specs/Life, Orders, Story and Ruled say it with nothing stored; specs/Kept, Next, Calls and Runs
-- say it of a state as it stands. What the stored numbers say is what 01's definition over all admissions says: proofs/Stored `kept_owed_lem`.
-- No hypothesis of the page is empty, as computed sequences show: proofs/Example opens, raises, drops, closes and opens again, with its
-- lanes and a box, and instances of `exactly`, `throughout`, `held_until`, `held_exactly`, `held_throughout`, `stays` and `far_apart`, and
-- a close that leaves no lane sending, with what is answered at that moment; proofs/OneMomentExample has a pair of events for which the
-- order is all one, a drop and an opening for which it isn't, and a raise and an opening with room for one of them.
pub mod Life
pub mod Orders
pub mod Story
pub mod Ruled
pub mod Kept
pub mod Next
pub mod Calls
pub mod Runs
pub mod Demands
pub mod Former
pub mod Formerly
