-- What the functions ask of their arguments and say of their results, each part by its name.
use Rattle.std.specs.Prelude.{ℕ, suc, ◌+◌, ◌/◌, ◌^◌, ◌≤◌, ◌<◌, ◌≡◌}
use Rattle.rules.specs.Limits.{count_max, length_min, length_max}
use Rattle.grid.specs.Ticks.{slot}

-- r is the value v, and lies from lo to hi
pub record Exactly (v lo hi r : ℕ) : Type 0 where
  pub is : r ≡ v
  pub low : lo ≤ r
  pub high : r ≤ hi

-- a length within its limits
pub record Length (D : ℕ) : Type 0 where
  pub low : length_min ≤ D
  pub high : D ≤ length_max

-- a floor and a cap that a title may have
pub record FloorCap (A K : ℕ) : Type 0 where
  pub low : 0 < A
  pub fit : A ≤ K
  pub high : K ≤ count_max

-- a count that has slots under the cap
pub record CountCap (k K : ℕ) : Type 0 where
  pub fit : k ≤ K
  pub high : K ≤ count_max

-- a count between the floor and the cap
pub record Counted (A K k : ℕ) : Type 0 where
  pub floor : A ≤ k
  pub fit : k ≤ K
  pub high : K ≤ count_max

-- the last tick that is asked about: twice the last asked time leaves room for every plan
abbrev pub tick_max : ℕ
tick_max = 2 ^ 42

-- r is the remainder v by m
pub record IsRest (v m r : ℕ) : Type 0 where
  pub is : r ≡ v
  pub less : r < m

-- r is the cell v, one of the cells of cap K
pub record IsCell (K v r : ℕ) : Type 0 where
  pub is : r ≡ v
  pub within : r < 2 ^ K

-- r is the channel v of count k
pub record IsChannel (k v r : ℕ) : Type 0 where
  pub is : r ≡ v
  pub within : r < k

-- channel d of count k is the one on which cell c goes out: the highest power of two within the number of its segment
pub record Carrier (K k c d : ℕ) : Type 0 where
  pub low : 2 ^ d ≤ c / slot K k + 1
  pub high : c / slot K k + 1 < 2 ^ suc d
