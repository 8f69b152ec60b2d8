-- What the calls that write leave in the room that is lent.
use Rattle.std.specs.Prelude.{ℕ, ◌+◌, ◌≡◌, Bool, not, List, [], ◌∷◌, ◌++◌, eqb, ltb, leb, length, drop}
use Rattle.std.proofs.lemmas.List.Edits.{sets}
use Rattle.rules.specs.Limits.{both, either}
use Rattle.rules.specs.Refusals.{pick, refuse, first_hit, done, wrong_rows}
use Rattle.journal_records.specs.declared.headers.Origin.{Origin}
use Rattle.journal_records.specs.Header.{header_size, identity_size, header_of}
use Rattle.journal_records.specs.Records.{record_least, payload_max, record_of}

-- the payload is not too long, and the room has the record's bytes from the place on
abbrev pub is_room_for : List ℕ → List ℕ → ℕ → Bool
is_room_for payload room at = both (leb (length payload) payload_max) (leb (at + (record_least + length payload)) (length room))

-- a record from the place on and the place behind it, or nothing and the place
pub record LaysRecord (identity : List ℕ) (n kind : ℕ) (payload room : List ℕ) (at answer : ℕ) (after : List ℕ) : Type 0 where
  pub answers : answer ≡ pick (is_room_for payload room at) (at + (record_least + length payload)) at
  pub leaves : after ≡ pick (is_room_for payload room at) (sets room at (record_of identity n kind payload)) room

-- a header at the start and later bytes as they were, or 10 and nothing
pub record LaysHeader (identity : List ℕ) (o : Origin) (room : List ℕ) (answer : ℕ) (after : List ℕ) : Type 0 where
  pub answers : answer ≡ first_hit (refuse wrong_rows (either (not (eqb (length identity) identity_size)) (ltb (length room) header_size)) ∷ [])
  pub leaves : after ≡ pick (eqb answer done) (header_of identity o ++ drop header_size room) room
