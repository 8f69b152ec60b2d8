-- The bytes of a head-end's journal: a header of 64 bytes (specs/Header `header_of`, `header_found`), and behind it records, each with its number,
-- kind, payload, and the sum of the journal's identity and of all that (specs/Records `record_of`, `verifies_at`).
-- - A record that was written verifies where it stands, whatever is around it, and reads as what was written: proofs/RoundTrip
--   `written_verifies`, `number_is`, `kind_is`, `payload_is`. So does a header: proofs/HeaderBack `header_reads`, `identity_is`.
-- - A record of which one byte was changed, in its payload or its sum, its number or its kind, never verifies there: proofs/OneByte
--   `changed_never_verifies`. Only a changed length could make other bytes be summed.
-- - The next place at which a record stands is the first: specs/Search `NextRecord`.
-- No public call has a `requires`. The contracts (specs/Records, Header, Laying and Search) settle what is given back and every place lent, for all
-- inputs: proofs/Unique.
pub mod Header
pub mod Records
pub mod Laying
pub mod Search
