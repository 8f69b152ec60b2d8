-- Status over a row of records (01, "Status"): as over flat rows, but that rows of unequal length cannot be.
use Rattle.std.specs.Prelude.{Bool, List, [], ◌∷◌, ℕ, leb, eqb, get_or, length}
use Rattle.rules.specs.Limits.{id_max}
use Rattle.rules.specs.Refusals.{pick}
use Rattle.rules.specs.Search.{every}
use Rattle.story.specs.declared.State.{State}
use Rattle.story.specs.Calls.{status_answer, status_count, status_held, status_mark}
use Rattle.questions.specs.Asked.{asked_answer}
use Rattle.status_records.specs.declared.Record.{Record}

abbrev pub no_record : Record
no_record = record { id = 0; count = 0; held = 0; mark = 0 }

-- the first n records have ids
unfoldable pub record_ids_ok : List Record → ℕ → Bool
record_ids_ok rows n = every (λ j. leb (get_or rows j no_record).id id_max) n

unfoldable pub records_answer : State → ℕ → List Record → ℕ
records_answer s τ rows = asked_answer s τ (record_ids_ok rows (length rows))

-- a record with its title's count, lanes held and mark
abbrev pub filled_record : State → ℕ → Record → Record
filled_record s τ r =
    record { id = r.id; count = status_count s r.id; held = status_held s r.id τ; mark = status_mark s r.id }

-- what the flat call makes of a record
unfoldable pub record_for : State → ℕ → Record → Record
record_for s τ r = pick (eqb (status_answer s τ (r.id ∷ []) 1 1 1) 0) (filled_record s τ r) r
