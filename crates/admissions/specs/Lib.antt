-- Who gets in at which admission, and how the code counts it stretch by stretch (02, request 1). specs/Waits says of a title's life who is
-- let in when (`lets_in`), which admission is an arrival's next (`Next`: it is at or after the arrival, with none between), who is turned
-- away and what a row of arrivals comes to (`Tallied`), with no end to the search.
-- - An arrival has a next admission exactly when some admission lets it in, however late, and one at most: proofs/GetsIn `gets_in_exactly`,
--   `next_one`. An open title's is found by a division (proofs/Even `reached_next`).
-- - Two tallies of a row are equal: proofs/GetsIn `one_tally`.
pub mod Waits
pub mod Stretches
pub mod Even
