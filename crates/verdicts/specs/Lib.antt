-- What an event answers before the pool is counted.
pub mod Before
