-- What a sharing answers and what it leaves in the lent row (01, "Sharing" and "Numbers that calls give back").
use Rattle.std.specs.Prelude.{◌≡◌, Bool, true, not, List, [], ◌∷◌, ◌++◌, ℕ, leb, ltb, eqb, length, drop}
use Rattle.rules.specs.Limits.{within, both, pool_min, pool_max, rate_min, rate_max, length_min, length_max}
use Rattle.rules.specs.Limits.{floor_min, floor_max, count_min, count_max, titles_max}
use Rattle.rules.specs.Refusals.{pick, refuse, first_hit, done, outside_limits, floor_above_cap, no_lanes, wrong_rows}
use Rattle.sharing_titles.specs.declared.titles.Rated.{Rated}
use Rattle.sharing.specs.declared.verdict.TitlesTally.{TitlesTally}
use Rattle.sharing_titles.specs.Titles.{titles, row_total}
use Rattle.sharing_choice.specs.Choice.{shared}

-- the four rows are of one length, at most sixteen, and the counts have room (01, "Sharing")
unfoldable pub rows_fit : List ℕ → List ℕ → List ℕ → List ℕ → ℕ → Bool
rows_fit rates lengths floors caps room =
    both (eqb (length lengths) (length rates))
    (both (eqb (length floors) (length rates))
    (both (eqb (length caps) (length rates))
    (both (leb (length rates) titles_max) (leb (length rates) room))))

-- each number of a title is within its limits (01, "What the product holds")
unfoldable pub allowed : Rated → Bool
allowed t =
    both (within rate_min rate_max t.rate)
    (both (within length_min length_max t.length)
    (both (within floor_min floor_max t.floor) (within count_min count_max t.cap)))

-- the title's floor is not above its cap
unfoldable pub ordered : Rated → Bool
ordered t = leb t.floor t.cap

-- every title passes a test
unfoldable pub each_title : (Rated → Bool) → List Rated → Bool
each_title p [] = true
each_title p (t ∷ ts) = both (p t) (each_title p ts)

-- what the code's one look at every title tells
pub record TalliesTitles (ts : List Rated) (r : TitlesTally) : Type 0 where
  pub limits : r.allowed ≡ each_title allowed ts
  pub order : r.ordered ≡ each_title ordered ts

-- the answer for titles in rows, with room for so many counts, by the order of 01, "Numbers that calls give back":
-- 10 1 15 9
unfoldable pub verdict_of : ℕ → List ℕ → List ℕ → List ℕ → List ℕ → ℕ → ℕ
verdict_of pool rates lengths floors caps room =
    first_hit
    (refuse wrong_rows (not (rows_fit rates lengths floors caps room))
    ∷ refuse outside_limits
    (not (both (within pool_min pool_max pool) (each_title allowed (titles rates lengths floors caps))))
    ∷ refuse floor_above_cap (not (each_title ordered (titles rates lengths floors caps)))
    ∷ refuse no_lanes (ltb pool (row_total floors))
    ∷ [])

-- the lent row afterwards (01, "Sharing"): the counts in its first places, later places as they were; after a refusal,
-- all of it as it was
unfoldable pub row_after : ℕ → List ℕ → List ℕ → List ℕ → List ℕ → List ℕ → List ℕ
row_after pool rates lengths floors caps row =
    pick (eqb (verdict_of pool rates lengths floors caps (length row)) done)
    (shared pool (titles rates lengths floors caps) ++ drop (length rates) row)
    row

-- what a sharing gives back: the answer r, and the row it leaves
pub record ShareAnswered (pool : ℕ) (rates lengths floors caps row : List ℕ) (r : ℕ) (after : List ℕ) : Type 0 where
  pub answer : r ≡ verdict_of pool rates lengths floors caps (length row)
  pub counts : after ≡ row_after pool rates lengths floors caps row
