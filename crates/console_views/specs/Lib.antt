-- What is shown of titles. `put_lanes` writes for each lane of a title what the lane question answers in each of some ticks
-- (specs/Lanes `lanes_text`): in the tick that it stands for, as proofs/Ticks `in_tick` shows. `put_titles` writes a line for each title
-- that is there (specs/Titles `titles_text`): a lane that it says sends until a moment is held before it and not from it on, as
-- proofs/Until `held_until` shows. `put_when` writes what the outlook found (specs/When `when_text`; `outlook` shows that it is the
-- earliest). Two outcomes of a call here are equal: `text` proofs/Unique `puts_one_outcome`.
pub mod Lanes
pub mod Titles
pub mod When
