-- The bytes of a notice's fields (01, "Notices"), one after the other by the table.
use Rattle.std.specs.Prelude.{ℕ, zero, suc, List, [], ◌∷◌, ◌++◌, get_or}
use Rattle.rules.specs.Refusals.{pick}
use Rattle.notice_fields.specs.Fields.{tag_of, size_of, is_carried}
use Rattle.notice_fields.specs.Numbers.{big_endian}

-- a field is its tag, its length in two bytes, and its value
unfoldable pub field_bytes : ℕ → ℕ → List ℕ
field_bytes i v = tag_of i ∷ big_endian 2 (size_of i) ++ big_endian (size_of i) v

-- what row i adds to a notice of kind k
unfoldable pub row_bytes : ℕ → ℕ → ℕ → List ℕ
row_bytes k i v = pick (is_carried k i) (field_bytes i v) []

-- the first rows of a notice of kind k with these values
unfoldable pub bytes_to : ℕ → List ℕ → ℕ → List ℕ
bytes_to k vs zero = []
bytes_to k vs (suc i) = bytes_to k vs i ++ row_bytes k i (get_or vs i 0)
