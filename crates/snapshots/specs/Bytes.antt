-- The bytes of a row of numbers, with their checksum, and the row that bytes spell.
use Rattle.std.specs.Prelude.{ℕ, zero, suc, ◌+◌, ◌*◌, ◌<◌, ◌^◌, ◌≡◌, Bool, List, [], ◌∷◌, ◌++◌, eqb, length, get_or, take}
use Rattle.rules.specs.Limits.{both}
use Rattle.notice_fields.specs.Numbers.{big_endian, number_at}
use Rattle.sums.specs.Crc.{sum_of}
pub use Rattle.sums.specs.Crc.{sum_size}

-- how many numbers an agent's row has: four, and 47 for each of 16 titles
abbrev pub saved_places : ℕ
saved_places = 756

-- its first number, the version of its layout
abbrev pub saved_version : ℕ
saved_version = 1

-- the bytes of a number, of the checksum, and of all that it sums
abbrev pub number_size : ℕ
number_size = 8

abbrev pub summed_size : ℕ
summed_size = number_size * saved_places

abbrev pub snapshot_size : ℕ
snapshot_size = summed_size + sum_size

-- an agent's row: of its length, each number of 64 bits, and of this version; whether each is within its limits is not asked here
pub record AgentRow (row : List ℕ) : Type 0 where
  pub places : length row ≡ saved_places
  pub small : (i : ℕ) → get_or row i 0 < 2 ^ 64
  pub version : get_or row 0 0 ≡ saved_version

-- ---- from a row to bytes

-- each number, one after the other
unfoldable pub number_bytes : List ℕ → List ℕ
number_bytes [] = []
number_bytes (v ∷ vs) = big_endian number_size v ++ number_bytes vs

-- and their checksum behind them
unfoldable pub snapshot_of : List ℕ → List ℕ
snapshot_of row = number_bytes row ++ big_endian sum_size (sum_of (number_bytes row))

-- ---- from bytes to a row

-- number i that bytes spell
abbrev pub saved_number : List ℕ → ℕ → ℕ
saved_number bs i = number_at bs (number_size * i) number_size

-- the first n of them
unfoldable pub numbers_in : List ℕ → ℕ → List ℕ
numbers_in bs zero = []
numbers_in bs (suc n) = numbers_in bs n ++ (saved_number bs n ∷ [])

-- bytes are a snapshot: of its length, with the sum of what stands before it, and of this version
unfoldable pub is_snapshot : List ℕ → Bool
is_snapshot bs =
    both (eqb (length bs) snapshot_size)
    (both (eqb (number_at bs summed_size sum_size) (sum_of (take summed_size bs)))
    (eqb (saved_number bs 0) saved_version))
