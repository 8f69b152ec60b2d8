-- The shifted slot number as one natural, of which laws of the grid speak: which channel of the next count carries a channel's cell
-- (source 000, Theorem 1), and which is added (02, request 3).
use Rattle.std.specs.Prelude.{ℕ, suc, ◌+◌, ◌-◌, ◌/◌, ◌%◌, ◌^◌, eqb}
use Rattle.rules.specs.Refusals.{pick}
use Rattle.grid.specs.Ticks.{slot}
use Rattle.grid.specs.Channels.{shift}

-- slot j of count k, one later and moved from the shift up to 2^k
unfoldable pub lifted : ℕ → ℕ → ℕ → ℕ
lifted A k j = j + 1 + (2 ^ k - 2 ^ (k - A))

-- the lifted slot of count k + 1, one more: its factors of two say which channel is added
unfoldable pub next_slot : ℕ → ℕ → ℕ → ℕ → ℕ
next_slot A K k t = lifted A (suc k) (t / slot K (suc k)) + 1

-- channel d of count k, seen under count k + 1
unfoldable pub raised : ℕ → ℕ → ℕ → ℕ → ℕ → ℕ
raised A K k t d = pick (eqb (next_slot A K k t % 2 ^ suc d) 0) d (suc d)

-- the slot number of count l + 1, shifted as in 01, plus one, as far from zero as it lies
abbrev pub shifted_sum : ℕ → ℕ → ℕ → ℕ → ℕ
shifted_sum A K l t = (t / slot K (suc l) + 1 - shift A (suc l)) + (shift A (suc l) - (t / slot K (suc l) + 1))
