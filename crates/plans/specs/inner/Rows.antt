-- What is written into a row from a place on, and what the runs of a plan give for a cell.
use Rattle.std.specs.Prelude.{ℕ, zero, suc, ◌+◌, ◌-◌, ◌%◌, ◌^◌, List, set}
use Rattle.std.specs.Int.Count.{count_leading_zeros}

-- the row with f's values in the n places from `from` on
unfoldable pub written_from : (ℕ → ℕ) → List ℕ → ℕ → ℕ → List ℕ
written_from f row from zero = row
written_from f row from (suc n) = set (written_from f row from n) (from + n) (f (from + n))

-- numbers that rise from `first` on, in the places from `from` on
abbrev pub rising_at : ℕ → ℕ → ℕ → ℕ
rising_at from first c = first + (c - from)

-- a run of `many` cells in the places from `from` on, of which the one behind `off` others is taken first
abbrev pub run_at : ℕ → ℕ → ℕ → ℕ → ℕ
run_at from many off c = (c - from + (many - off)) % many

-- of runs that are `phase` cells on: a cell is in the run of the highest power of two within its place and `base`, and comes after as many
-- ticks as that run takes to it
unfoldable pub runs_at : ℕ → ℕ → ℕ → ℕ
runs_at base phase c = (c + base + (run - phase % run)) % run
  where
    run : ℕ
    run = 2 ^ (63 - count_leading_zeros 64 (c + base))
