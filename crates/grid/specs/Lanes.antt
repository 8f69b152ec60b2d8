-- Which cell each lane carries (01, "Lanes are ours"; source 000, Definition 3).
use Rattle.std.specs.Prelude.{ℕ, suc, Bool, not, ltb, eqb}
use Rattle.rules.specs.Refusals.{pick}
use Rattle.rules.specs.Search.{some, first}
use Rattle.grid.specs.Channels.{channel_cell}

-- cell c is in G(k, t), as a test
unfoldable pub is_in_g : ℕ → ℕ → ℕ → ℕ → ℕ → Bool
is_in_g A K k t c = some (λ d. eqb (channel_cell A K k d t) c) k

-- channel d of count l + 1 carries at tick t a cell that is not in G(l, t)
unfoldable pub is_added : ℕ → ℕ → ℕ → ℕ → ℕ → Bool
is_added A K l t d = not (is_in_g A K l t (channel_cell A K (suc l) d t))

-- the channel of count l + 1 whose cell is the one not in G(l, t)
unfoldable pub added_channel : ℕ → ℕ → ℕ → ℕ → ℕ
added_channel A K l t = first (is_added A K l t) (suc l)

-- the cell that lane l carries at tick t: below A that of channel l of count A, else the one cell of G(l + 1, t) not in G(l, t)
unfoldable pub lane_cell : ℕ → ℕ → ℕ → ℕ → ℕ
lane_cell A K l t = pick (ltb l A) (channel_cell A K A l t) (channel_cell A K (suc l) (added_channel A K l t) t)
