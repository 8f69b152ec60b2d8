-- Status over a row of records: its answer is the flat call's (proofs/Rows `flat_answer`), and so is what it fills in (`status`).
pub mod Records
