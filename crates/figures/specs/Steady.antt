-- Blocks of a skip-forward title as source 002 counts them, from 1 (chapter 3).
use Rattle.std.specs.Prelude.{ℕ, ◌+◌}
use Rattle.scheme.specs.Scheme.{steady_cell}

-- the block on a lane at a tick
abbrev pub block_on : ℕ → ℕ → ℕ
block_on lane tick = steady_cell lane tick + 1
