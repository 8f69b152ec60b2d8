-- The two ways of a segment looked for under another count.
use Prim.Native.Nat.{ℕ}
use mathlib.Core.Path.{◌≡◌}
use mathlib.Core.Bool.{Bool, true, false}
use Rattle.grid.specs.Channels.{channel_cell}
use Rattle.grid.specs.Lanes.{is_in_g}
use Rattle.figures.specs.Segments.{segment_of, found_in}

module _ (other channel tick at cell : ℕ) (b : Bool) (is : cell ≡ channel_cell 2 4 2 channel tick)
    (test : b ≡ is_in_g 2 4 other at cell) where
  pub found : (r : ℕ) → b ≡ true → r ≡ segment_of 4 other cell → r ≡ found_in other channel tick at
  unfolding found_in
  found r there e = rw (← is, ← test, there) e

  pub not_found : b ≡ false → 0 ≡ found_in other channel tick at
  unfolding found_in
  not_found gone = rw (← is, ← test, gone)
