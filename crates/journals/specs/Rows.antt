-- What one call of a start does to the row that is lent as an agent: all that a window of the journal and the sums beside it decide.
use Rattle.std.specs.Prelude.{ℕ, ◌+◌, ◌-◌, ◌^◌, Bool, List, leb, length}
use Rattle.rules.specs.Limits.{both}
use Rattle.rules.specs.Refusals.{pick}
use Rattle.row_calls.specs.Answers.{row_notice, row_after_notice}
use Rattle.journals.specs.declared.Start.{Start}
use Rattle.journals.specs.Start.{Hearer, Stage, stage, view, hears_in}

-- a row hears as the agent that it is (`row_calls` proofs/Follows)
abbrev pub row_hears : Hearer (List ℕ)
row_hears = record { answer = row_notice; after = row_after_notice }

-- the numbers of a start, and of one that goes n bytes further, are those of some journal that 64 bits count
unfoldable pub is_counted : Start → ℕ → Bool
is_counted s n = both (both (leb s.heard s.place) (leb s.behind s.place)) (leb (s.place + n) (2 ^ 64 - 1))

-- a window that begins at the start's place, with the sums from the next notice's on; other numbers are given back as they came
unfoldable pub row_heard : List ℕ → Start → List ℕ → List ℕ → Bool → Stage (List ℕ)
row_heard row s window sums over =
    pick (is_counted s (length window)) (hears_in row_hears (view window sums s.place s.heard over) (stage s row)) (stage s row)
