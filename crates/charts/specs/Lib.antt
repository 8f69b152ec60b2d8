-- The picture of a whole log of notices.
-- - The text is the definition's, for every pool and every log: `charts::put_chart`, contract `picture_text`.
-- - No step of its curve passes the line of the pool, whatever the log and however far it is played: specs/Pool `UnderTheLine`, shown in
--   `charts` proofs/Pool `under_the_line`.
pub mod Charts
pub mod Pool
