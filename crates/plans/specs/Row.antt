-- The lent row of 16-bit numbers after a plan's call (01, "The box plan"; 02, 12).
use Rattle.std.specs.Prelude.{ℕ, zero, suc, ◌≡◌, List, eqb, length, set}
use Rattle.rules.specs.Refusals.{pick, done}
use Rattle.grid.specs.Ticks.{cells}
use Rattle.plans.specs.Padded.{plan_at, plan_answer}
use Rattle.plans.specs.Forward.{blocks, skip_at, skip_answer}

-- the row with f's values in its first n places, and what stood there in the later ones
unfoldable pub written : (ℕ → ℕ) → List ℕ → ℕ → List ℕ
written f row zero = row
written f row (suc n) = set (written f row n) n (f n)

-- the row after a call with this answer: the n values of f go into its first places; a refusal writes nothing
unfoldable pub filled_row : ℕ → (ℕ → ℕ) → ℕ → List ℕ → List ℕ
filled_row answer f n row = pick (eqb answer done) (written f row n) row

-- the plan goes into the first 2^K places
unfoldable pub plan_row : ℕ → ℕ → ℕ → ℕ → List ℕ → List ℕ
plan_row A K k a row = filled_row (plan_answer A K k a (length row)) (plan_at A K k a) (cells K) row

-- that of a skip-forward title's box into as many as the film has blocks
unfoldable pub skip_row : ℕ → ℕ → List ℕ → List ℕ
skip_row k a row = filled_row (skip_answer k a (length row)) (skip_at k a) (blocks k) row

-- what each call settles: the answer r, and the row that it leaves
pub record Planned (A K k a : ℕ) (row : List ℕ) (r : ℕ) (after : List ℕ) : Type 0 where
  pub answer : r ≡ plan_answer A K k a (length row)
  pub left : after ≡ plan_row A K k a row

pub record SkipPlanned (k a : ℕ) (row : List ℕ) (r : ℕ) (after : List ℕ) : Type 0 where
  pub answer : r ≡ skip_answer k a (length row)
  pub left : after ≡ skip_row k a row
