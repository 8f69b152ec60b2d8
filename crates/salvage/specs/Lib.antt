-- What the program of the salvage writes, block by block (02, request 8: input of any length). `blocks::scan_block` has the contract
-- `Blocks`, which speaks of every log that a window may stand in.
-- - Blocks one behind the other hold what the scan of the whole keeps, count what it counts, and tell what is told of the whole
--   (`salvage_lines` specs/Report `report_of`: each stretch, the gap in the sequences that it left, and the totals): `salvage` proofs/InBlocks
--   `in_blocks`.
pub mod Blocks
pub mod Walks
