-- What the air carried for the boxes of a title in a log, a record of our own answers, and how the code goes through the log (02, request
-- 13). specs/Air has the refusals and what the call leaves, for the title's life in a log (`agent` specs/Played `life_in`, the one that the
-- waits read); `judging` says what a record shows.
-- - The row and both counts are the definition's, for every record, log, title and row: `airing::air`, contract `air_gives`, `air_leaves`.
--   `airing::admissions` says at which ticks a title's latest opening has admissions; the first of them are those of the row.
-- - A record of our own lane answers, each asked after its moment's events, starves none: proofs/Starves `starves_none`. Of every log that
--   is whole, and every title last opened in it as a padded one, such a record (specs/Own `OwnAnswers`: each lane asked once in each tick,
--   at any of its moments) is answered 0, and as many played through as were judged; `own_result` says it of each admission, and
--   `own_record_starves_none` of the record that asks at each tick's start (`own_record`), of any number of ticks up to 4,096 that the room
--   holds. It joins the lane question's contract to demand 3 through `story` specs/Demands `boxes` and `by_the_calls`; `airing`
--   proofs/OwnCells: every number of it is a cell of the title or nothing.
-- - Of two records of one title the one that shows all that the other shows has no fewer played through: proofs/MoreShown `more_played`.
-- - Where both orders of two events at one moment are accepted, the logs that a head-end keeps of them say the same of the air and of the
--   admissions' ticks: proofs/OneMoment `gives_alike`, `leaves_alike`, `ticks_alike` (02, request 14).
-- proofs/Example is a log and its own record, with five admissions judged.
pub mod Air
pub mod Reasons
pub mod Own
pub mod inner
