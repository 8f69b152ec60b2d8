-- Segments as the papers count them, from 1 (source 000, section II-A and III-A).
use Rattle.std.specs.Prelude.{ℕ, zero, suc, ◌+◌, ◌/◌, Bool, true}
use Rattle.rules.specs.Limits.{both}
use Rattle.rules.specs.Refusals.{pick}
use Rattle.grid.specs.Ticks.{slot}
use Rattle.grid.specs.Channels.{channel_cell}
use Rattle.grid.specs.Lanes.{is_in_g}

-- the segment of a count that holds a cell
unfoldable pub segment_of : ℕ → ℕ → ℕ → ℕ
segment_of cap count cell = cell / slot cap count + 1

-- source 000, figure 4: the segment of another count in which what a channel of count 2 carries at a tick goes out at tick
-- `at`; 0 where it does not. Floor 2 and cap 4
unfoldable pub found_in : ℕ → ℕ → ℕ → ℕ → ℕ
found_in other channel tick at =
    pick (is_in_g 2 4 other at (channel_cell 2 4 2 channel tick)) (segment_of 4 other (channel_cell 2 4 2 channel tick)) 0

-- source 000, figure 1: a start from which each of the first n cells is on some channel just when it plays
unfoldable pub needs_no_buffer : ℕ → ℕ → Bool
needs_no_buffer start zero = true
needs_no_buffer start (suc n) = both (needs_no_buffer start n) (is_in_g 4 4 4 (start + n) n)
