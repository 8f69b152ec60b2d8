-- What a head-end writes beside its journal, and where /proc shows what it looks at.
pub mod Paths
pub mod Records
