-- The commands of the operator's console: their words (specs/Letters), which are told in either case (proofs/Cases `either_case`), and how many
-- numbers each takes, of which size and which are times (specs/Commands).
pub mod Letters
pub mod Commands
