-- The shifted grid: which segment and which cell a channel carries (01, "The shifted grid"; source 000, Lemma 2).
use Rattle.std.specs.Prelude.{ℕ, ◌+◌, ◌-◌, ◌/◌, ◌%◌, ◌^◌, ◌<◌, ◌≡◌, ℤ, pos, negsuc, ◌-ℤ◌}
use Rattle.grid.specs.Ticks.{slot, cell_of}

-- the remainder of z by m that is never negative
unfoldable pub floor_rem : ℤ → ℕ → ℕ
floor_rem (pos n) m = n % m
floor_rem (negsuc n) m = m - 1 - n % m

-- by how many slots the channels of count k are shifted, for floor A
unfoldable pub shift : ℕ → ℕ → ℕ
shift A k = 2 ^ (k - A) - 1

-- the segment that channel d of count k carries in slot j
unfoldable pub segment : ℕ → ℕ → ℕ → ℕ → ℕ
segment A k d j = 2 ^ d + floor_rem (pos j -ℤ pos (shift A k)) (2 ^ d)

-- the cell that channel d of count k carries at tick t: in the r-th tick of a slot the r-th cell of its segment
unfoldable pub channel_cell : ℕ → ℕ → ℕ → ℕ → ℕ → ℕ
channel_cell A K k d t = cell_of K k (segment A k d (t / slot K k)) (t % slot K k)

-- G(k, t), the set of cells on the k channels at tick t
abbrev pub InG : ℕ → ℕ → ℕ → ℕ → ℕ → Type 0
InG A K k t c = (d : ℕ) × (d < k) × (channel_cell A K k d t ≡ c)
