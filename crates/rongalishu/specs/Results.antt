-- Numbers that a call gives back besides its answer, in a lent row.
use Rattle.std.specs.Prelude.{ℕ, ◌≡◌, List, [], ◌∷◌, eqb, ltb, length}
use Rattle.rules.specs.Refusals.{pick, done, wrong_rows}
use Rattle.salvaging.specs.Rows.{filled}

-- a result row needs so many places: else 10, before all else
unfoldable pub needing : ℕ → List ℕ → ℕ → ℕ
needing n row a = pick (ltb (length row) n) wrong_rows a

-- what a call leaves in it: the numbers at its front where it is done, later places as they were; a refusal writes nothing
unfoldable pub resulting : ℕ → List ℕ → List ℕ → List ℕ
resulting a xs row = pick (eqb a done) (filled xs row) row

-- a call that answers a and gives back one number x besides
pub record OneGiven (row : List ℕ) (a x r : ℕ) (after : List ℕ) : Type 0 where
  pub answers : r ≡ needing 1 row a
  pub leaves : after ≡ resulting r (x ∷ []) row
