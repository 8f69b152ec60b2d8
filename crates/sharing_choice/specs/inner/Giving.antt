-- What the parts of the code promise to each other on the way to the shared counts. The public call's contract cites
-- none of this.
use Rattle.std.specs.Prelude.{◌≡◌, List, ℕ, ◌<◌, ◌≤◌, length, get_or}
use Rattle.rules.specs.Limits.{titles_max}
use Rattle.sharing_titles.specs.declared.titles.Rated.{Rated}
use Rattle.sharing_titles.specs.Titles.{rated_title, row_total}
use Rattle.sharing_titles.specs.Term.{worth}
use Rattle.sharing_titles.specs.inner.Weighing.{Sound}

-- such rows, at most sixteen titles, whose floors fit the pool, and a row with a place for each count
pub record Fillable (pool : ℕ) (rates lengths floors caps counts : List ℕ) : Type 0 where
  pub sound : Sound rates lengths floors caps
  pub few : length rates ≤ titles_max
  pub room : row_total floors ≤ pool
  pub places : length counts ≡ length rates

-- r is the title to which one lane more is worth most, the first of several; or the number of titles where it is worth
-- nothing to any
pub record Neediest (ts : List Rated) (ks : List ℕ) (r : ℕ) : Type 0 where
  pub bound : r ≤ length ts
  pub nothing : r ≡ length ts → (j : ℕ) → j < length ts → worth (rated_title ts j) (get_or ks j 0) ≡ 0
  pub some : r < length ts → 0 < worth (rated_title ts r) (get_or ks r 0)
  pub most : r < length ts → (j : ℕ) → j < length ts
      → worth (rated_title ts j) (get_or ks j 0) ≤ worth (rated_title ts r) (get_or ks r 0)
  pub first : r < length ts → (j : ℕ) → j < r → worth (rated_title ts j) (get_or ks j 0) < worth (rated_title ts r) (get_or ks r 0)
