-- The start of a head-end: its journal and the sums beside it are played into an agent, and what is found ends in one verdict (specs/Start
-- `journal_start`, over the whole files; specs/Outcome `Says` for what each verdict says of them).
-- - Of any pool, any journal and any sums, at whatever verdict: the notices up to the cut are whole, each has its sum, and the agent is the one
--   that played the journal cut there; behind them no more were counted than one block of input can hold: specs/Outcome `Outcome`, shown by
--   proofs/Outcomes `outcome`. A verdict is one case, and the start always ends in one.
-- - An end is torn just where it begins a notice: proofs/TornEnds `torn_begins`, `begins_torn`. One that has a sum, and has it as a notice of
--   another kind, is damage and not torn (specs/Torn `had_kind`): else a flipped kind would cut an answered event off.
-- - The call `hear` plays on an agent's row in place, window by window, by specs/Rows `row_heard`. Windows played until the start has ended
--   leave the verdict of the whole files, and the row of the agent that played the journal up to the cut: proofs/WholeFiles `run_whole`,
--   proofs/RowsFollow `row_start`; each window is what the call does: `call_hears`.
-- - After a kill at any moment (specs/Restart): the log of a head-end's accepted events and its sums, both cut at any byte, with no more notices
--   behind the last sum than one block of input can hold, let the next start go on, with the agent that the head-end was after its first
--   events: proofs/HeadEndKeeps `kept_with`, proofs/Restarts `goes_on`, proofs/AfterKill `after_kill`, `as_it_was`. One exception is named
--   there (`GoesOn`): a torn notice whose sum happens to be that of its bytes under another kind is refused as damage, and changes nothing.
-- - The sums made anew of a journal, window by window: specs/Summing `SumsLaid`.
-- - Two outcomes that a call's contract admits are equal, the row that it leaves included: proofs/Unique.
pub mod Torn
pub mod Start
pub mod Rows
pub mod Windows
pub mod Outcome
pub mod Summing
pub mod Restart
pub mod inner
