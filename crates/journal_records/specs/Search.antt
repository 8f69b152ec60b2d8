-- The first place from one on at which a record stands.
use Rattle.std.specs.Prelude.{ℕ, max, ◌≤◌, ◌<◌, ◌≡◌, true, false, List, length}
use Rattle.journal_records.specs.Records.{verifies_at}

pub record NextRecord (identity bs : List ℕ) (from r : ℕ) : Type 0 where
  pub low : from ≤ r
  pub high : r ≤ max from (length bs)
  pub none_before : (q : ℕ) → from ≤ q → q < r → verifies_at identity bs q ≡ false
  pub stands : r < length bs → verifies_at identity bs r ≡ true
