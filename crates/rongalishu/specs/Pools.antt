-- The planner's list over lent rows, with a result row beside them: how many changes it has.
use Rattle.std.specs.Prelude.{ℕ, ◌≡◌, true, false, List, [], ◌∷◌, ltb, length}
use Rattle.rules.specs.Refusals.{wrong_rows}
use Rattle.row_questions.specs.Questions.{RowListed}
use Rattle.rongalishu.specs.Results.{resulting}

-- the list, told in a row that has its place
pub record PlannerTold (agent : List ℕ) (τ : ℕ) (rates is ts ks row : List ℕ) (r : ℕ) (is' ts' ks' row' : List ℕ) : Type 0 where
  pub many : ℕ
  pub lists : RowListed agent τ rates is ts ks r many is' ts' ks'
  pub row_is : row' ≡ resulting r (many ∷ []) row

pub record PlannerGiven (agent : List ℕ) (τ : ℕ) (rates is ts ks row : List ℕ) (r : ℕ) (is' ts' ks' row' : List ℕ) : Type 0 where
  pub too_short : ltb (length row) 1 ≡ true → (r ≡ wrong_rows) × ((is' ≡ is) × ((ts' ≡ ts) × ((ks' ≡ ks) × (row' ≡ row))))
  pub tells : ltb (length row) 1 ≡ false → PlannerTold agent τ rates is ts ks row r is' ts' ks' row'
