-- What the functions of this crate ask: no public call's contract cites it, and proofs/ shows what it comes to.
pub mod Weighing
