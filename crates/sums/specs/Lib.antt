-- The checksum that guards stored bytes: CRC-32C, by its published definition (specs/Crc `sum_of`), which the call `sums::sum` equals for every
-- row of bytes, and `sums::sum_joined` for two rows, one behind the other.
-- - One byte of a row changed, whatever to, changes its sum: proofs/OneByte `sum_one_byte`.
-- The published vectors are run by `sums_cases`.
pub mod Crc
pub mod inner
