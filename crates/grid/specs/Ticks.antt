-- Cells, ticks and slots (01, "Cells, ticks, slots"; source 000, section III-A).
use Rattle.std.specs.Prelude.{ℕ, ◌+◌, ◌-◌, ◌*◌, ◌/◌, ◌^◌}

-- how many cells a film with cap K is cut into
abbrev pub cells : ℕ → ℕ
cells K = 2 ^ K

-- n / m rounded up
unfoldable pub rounded_up : ℕ → ℕ → ℕ
rounded_up n m = (n + (m - 1)) / m

-- the tick in ms of a film of D ms with floor A and cap K
unfoldable pub tick_of : ℕ → ℕ → ℕ → ℕ
tick_of D A K = rounded_up D (2 ^ K - 2 ^ (K - A))

-- w, the ticks in a slot of count k
unfoldable pub slot : ℕ → ℕ → ℕ
slot K k = 2 ^ (K - k)

-- the r-th cell, from 0, of segment n = 1, 2, .. of count k
unfoldable pub cell_of : ℕ → ℕ → ℕ → ℕ → ℕ
cell_of K k n r = (n - 1) * slot K k + r
