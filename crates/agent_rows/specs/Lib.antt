-- An agent as a row of 64-bit numbers that a caller lends: plain data, which may be copied, stored and compared. specs/Layout says where
-- each number stands, specs/Packed what row an agent has (`packed`) and which agent a row is (`unpacked`).
-- - Each is the other's inverse: proofs/Inverse `unpacked_packed`, of an agent whose rows have their lengths, which every agent of
--   `agent::Agent` has (`WholeAgent`); `packed_unpacked`, of a row of `row_length` numbers that is sound (`row_sound`: its first number is the
--   layout's version, and its sequence fits).
-- - A title is read out of its places, and put back there with every other number as it was: `agent_rows::reading::title_at`,
--   `agent_rows::laying::put_title`.
-- - The limits of all numbers are tested in place, `agent_rows::testing::row_ok`, and lanes held are counted there, over all titles and
--   over all but one (specs/Others `others_held`): `agent_rows::holding::lanes_held` and `agent_rows::holding::others_held`.
--   proofs/Lanes `with_title_held`: the lanes held with another title at an id are those of the others, and its own.
pub mod Layout
pub mod Packed
pub mod Others
pub mod inner
