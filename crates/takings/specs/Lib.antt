-- What a box makes of the numbers of a title's lanes, twelve to a tick from its start on: for each cell that holds film the first tick at
-- which some lane shows it and the lowest such lane (specs/Takings `taking_place`), how many cells it keeps in a tick (`kept_at`), and the most
-- that it ever keeps, with the first tick in which it does (`peak_to`).
-- - The row of places and the counts are these definitions, for every row of numbers: `takings::take_all`, `takings::kept_at`,
--   `takings::peak_of`.
-- - The peak is reached, and no tick has more: proofs/Peaks `peak_highest`, `peak_reached`.
pub mod Takings
