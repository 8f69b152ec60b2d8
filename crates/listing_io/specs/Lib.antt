-- What the listing program prints.
-- - Repeated steps over any log leave the agent after the log's notices, and print their lines: proofs/WholeLog `listed`, `listed_fresh`.
--   `agent` proofs/Played `played` joins that agent to the series of byte strings of `agent` specs/Boxes.
-- - Every log has such a run that ends: `listing_io` proofs/RunEnds `ends`.
-- - What was read of a log that goes on is listed up to where a notice is unfinished: proofs/WholeLog `drained_unfinished`; at the log's
--   end all of it is: `drained_all`.
-- - The times at which lanes held are shown: proofs/Held `own_time`, `none_held`.
pub mod Lines
pub mod Step
pub mod Listing
