-- What the functions over titles ask of them. The public call's contract cites none of this.
use Rattle.std.specs.Prelude.{List, ℕ, ◌<◌, ◌≤◌, length}
use Rattle.rules.specs.Limits.{count_min, count_max, length_max, length_min, rate_max, rate_min}
use Rattle.sharing_titles.specs.declared.titles.Rated.{Rated}
use Rattle.sharing_titles.specs.Titles.{rated_title, titles, SameLengths}

-- a title's numbers are such that its part of the sum can be worked out
pub record Weighable (t : Rated) : Type 0 where
  pub rate_low : rate_min ≤ t.rate
  pub rate_high : t.rate ≤ rate_max
  pub length_low : length_min ≤ t.length
  pub length_high : t.length ≤ length_max
  pub floor_low : count_min ≤ t.floor
  pub floor_cap : t.floor ≤ t.cap
  pub cap_high : t.cap ≤ count_max

-- every title can be weighed
pub record AllWeighable (ts : List Rated) : Type 0 where
  pub each : (i : ℕ) → i < length ts → Weighable (rated_title ts i)

-- rows of one length, whose titles can all be weighed
pub record Sound (rates lengths floors caps : List ℕ) : Type 0 where
  pub even : SameLengths rates lengths floors caps
  pub weighable : AllWeighable (titles rates lengths floors caps)
