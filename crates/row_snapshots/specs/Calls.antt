-- What the calls on a lent row answer and leave. First match wins: `save` 10 1, `load` 10 11 1.
use Rattle.std.specs.Prelude.{ℕ, ◌≡◌, Bool, not, List, [], ◌∷◌, ◌++◌, eqb, ltb, length, drop}
use Rattle.rules.specs.Limits.{both, either}
use Rattle.rules.specs.Refusals.{pick, refuse, first_hit, done, outside_limits, wrong_rows, malformed}
use Rattle.story.specs.Kept.{state_ok}
use Rattle.snapshots.specs.Bytes.{snapshot_size, snapshot_of, numbers_in, is_snapshot}
use Rattle.agent_rows.specs.Layout.{row_length}
use Rattle.agent_rows.specs.Packed.{unpacked, row_sound}

-- the row has another length than an agent's
abbrev pub is_other_length : List ℕ → Bool
is_other_length row = not (eqb (length row) row_length)

-- the row is sound, and every number of its state within its limits
abbrev pub is_within : List ℕ → Bool
is_within row = both (row_sound row) (state_ok (unpacked row).state)

-- the row's snapshot stands at the room's start, and later bytes stay
pub record RowSaves (row room : List ℕ) (answer : ℕ) (after : List ℕ) : Type 0 where
  pub answers : answer
      ≡ first_hit
      (refuse wrong_rows (either (is_other_length row) (ltb (length room) snapshot_size))
      ∷ refuse outside_limits (not (is_within row))
      ∷ [])
  pub leaves : after ≡ pick (eqb answer done) (snapshot_of row ++ drop snapshot_size room) room

-- the row has the snapshot's numbers
pub record RowLoads (row bs : List ℕ) (answer : ℕ) (after : List ℕ) : Type 0 where
  pub answers : answer
      ≡ first_hit
      (refuse wrong_rows (is_other_length row)
      ∷ refuse malformed (not (is_snapshot bs))
      ∷ refuse outside_limits (not (is_within (numbers_in bs row_length)))
      ∷ [])
  pub leaves : after ≡ pick (eqb answer done) (numbers_in bs row_length) row
