-- Two rows that have the same numbers, and a row that has a function's.
use Rattle.std.specs.Prelude.{ℕ, zero, suc, ◌<◌, ◌≡◌, Bool, true, List, eqb, length, get_or}
use Rattle.rules.specs.Limits.{both}

-- the first n places are equal
unfoldable pub agree_to : List ℕ → List ℕ → ℕ → Bool
agree_to a b zero = true
agree_to a b (suc n) = both (agree_to a b n) (eqb (get_or a n 0) (get_or b n 0))

unfoldable pub agree : List ℕ → List ℕ → Bool
agree a b = both (eqb (length a) (length b)) (agree_to a b (length a))

-- a row of n places holds the first values of f
pub record RowOf (f : ℕ → ℕ) (n : ℕ) (row : List ℕ) : Type 0 where
  pub size : length row ≡ n
  pub value : (i : ℕ) → i < n → get_or row i 0 ≡ f i
