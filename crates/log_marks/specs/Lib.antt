-- What a log of notices leaves in a picture, as texts: of each notice by what the agent makes of it, and what is left at the log's end.
-- - What is drawn of a log's notices, and the row that is kept, are the definition's: `log_marks::playing::play`, contract specs/Played
--   `DrawsAll` over `drawn_of`; of what is left, `log_marks::ending::put_all`, contract `all_marks` and `all_kept`, and `put_cut`, contract
--   `cut_marks` and `cut_kept`.
pub mod Hearing
pub mod Played
pub mod Ending
