-- What a record of the air shows, and what becomes of the boxes that begin in it (02, request 13). A record has twelve numbers a tick
-- (specs/Record `seen`, `is_shown`, `is_in_time`). specs/Judged says of a life what each of its admissions gets by it, in the story's own
-- words (`story` specs/Life `is_admission`, `is_film`): the lowest cell of film that no lane showed from the start through its turn
-- (`result_of`), who is judged, plays through or outlasts the record, and the row (`results_in`).
-- - Each judged admission's result stands at its place, in the order of their ticks, later places stay, and each admission in the record is
--   judged or outlasts it: `judging` proofs/Laws `place_of`, `in_order`, `later_stay`, `all_told`. What a result says: proofs/Plays
--   `result_missed`, `played_has_all`.
-- - A record that shows all that another shows, and more, lets play through every admission that the other does, of a title whose cap is
--   within its limit: proofs/MoreShown `more_shown`, `no_fewer_played`, over specs/Judged `Covers`.
pub mod Record
pub mod Judged
pub mod Judge
pub mod inner
