-- What the calls answer and leave. First match wins: `save` 10, `load` 10 11.
use Rattle.std.specs.Prelude.{ℕ, ◌≡◌, Bool, not, List, [], ◌∷◌, ◌++◌, eqb, ltb, length, drop}
use Rattle.rules.specs.Limits.{either}
use Rattle.rules.specs.Refusals.{pick, refuse, first_hit, done, wrong_rows, malformed}
use Rattle.snapshots.specs.Bytes.{saved_places, snapshot_size, snapshot_of, numbers_in, is_snapshot}

-- the row is no agent's by its length
abbrev pub is_odd_row : List ℕ → Bool
is_odd_row row = not (eqb (length row) saved_places)

pub record Saves (row room : List ℕ) (answer : ℕ) (after : List ℕ) : Type 0 where
  pub answers : answer ≡ first_hit (refuse wrong_rows (either (is_odd_row row) (ltb (length room) snapshot_size)) ∷ [])
  pub leaves : after ≡ pick (eqb answer done) (snapshot_of row ++ drop snapshot_size room) room

pub record Loads (bs row : List ℕ) (answer : ℕ) (after : List ℕ) : Type 0 where
  pub answers : answer ≡ first_hit (refuse wrong_rows (is_odd_row row) ∷ refuse malformed (not (is_snapshot bs)) ∷ [])
  pub leaves : after ≡ pick (eqb answer done) (numbers_in bs saved_places) row
