-- What a line of the operator's console means (specs/Lines `meaning`), as `lines::parse` answers it for every line of bytes. Every line is
-- read to its end (proofs/Finished `finished`), its first word decides its command (proofs/Kept `first_decides`), and a time as programs
-- write it may be typed where a line takes one (proofs/Times `written_typed`). Lines with their meaning, computed: proofs/Examples `shown`.
pub mod Lines
pub mod inner
