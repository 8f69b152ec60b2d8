-- Numbers are big-endian (01, "Notices"): the first byte counts most.
use Rattle.std.specs.Prelude.{ℕ, zero, suc, ◌+◌, ◌*◌, ◌/◌, ◌%◌, ◌^◌, ◌<◌, List, [], ◌∷◌, get_or}

-- each element of a list of numbers is a byte
abbrev pub Bytes : List ℕ → Type 0
Bytes bs = (j : ℕ) → get_or bs j 0 < 256

-- the last n bytes of a number
unfoldable pub big_endian : ℕ → ℕ → List ℕ
big_endian zero v = []
big_endian (suc n) v = v / 256 ^ n % 256 ∷ big_endian n v

-- the number that the n bytes from a place on spell
unfoldable pub number_at : List ℕ → ℕ → ℕ → ℕ
number_at bs at zero = 0
number_at bs at (suc n) = number_at bs at n * 256 + get_or bs (at + n) 0
