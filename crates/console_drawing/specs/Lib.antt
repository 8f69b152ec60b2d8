-- What a terminal shows behind an event once `draw` was entered. `put_picture` writes the lanes of a title from the tick of the last accepted
-- event on, sign by sign (specs/Pictures `title_picture`): a sign is full or hatched wherever the lane question is answered with a cell, and free
-- where the lane is not held (proofs/Signs `answered_sign`, `free_sign_lem`). `put_drawn` writes it behind a line whose event is accepted, of the
-- state after it, and nothing behind any other (specs/Drawn `drawn_behind`); `switched` says what a line makes of the switch (specs/Drawn
-- `draws_after`). Two outcomes of a call here that writes are equal: `text` proofs/Unique `puts_one_outcome`.
pub mod Pictures
pub mod Drawn
