-- The titles among which lanes are shared, as four rows of numbers or as one list (01, "Sharing").
use Rattle.std.specs.Prelude.{◌≡◌, List, [], ◌∷◌, ℕ, ◌+◌, length, get_or}
use Rattle.sharing_titles.specs.declared.titles.Rated.{Rated}

-- what is read past the last title
abbrev pub unrated : Rated
unrated = record { rate = 0; length = 0; floor = 0; cap = 0 }

abbrev pub rated_title : List Rated → ℕ → Rated
rated_title ts i = get_or ts i unrated

-- the titles whose rates, lengths, floors and caps stand in four rows, as far as all four go
unfoldable pub titles : List ℕ → List ℕ → List ℕ → List ℕ → List Rated
titles [] ds fs cs = []
titles (r ∷ rs) [] fs cs = []
titles (r ∷ rs) (d ∷ ds) [] cs = []
titles (r ∷ rs) (d ∷ ds) (f ∷ fs) [] = []
titles (r ∷ rs) (d ∷ ds) (f ∷ fs) (c ∷ cs) = record { rate = r; length = d; floor = f; cap = c } ∷ titles rs ds fs cs

-- the four rows are of one length
pub record SameLengths (rates lengths floors caps : List ℕ) : Type 0 where
  pub second : length lengths ≡ length rates
  pub third : length floors ≡ length rates
  pub fourth : length caps ≡ length rates

-- the numbers of a row together
unfoldable pub row_total : List ℕ → ℕ
row_total [] = 0
row_total (x ∷ xs) = x + row_total xs
