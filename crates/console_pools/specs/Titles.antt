-- The status of titles (docs/CONSOLE.md, "Commands": status).
use Rattle.std.specs.Prelude.{ℕ, ◌-◌, min, List, ◌∷◌, ◌++◌, map, length, take, drop}
use Rattle.story.specs.declared.State.{State}
use Rattle.story.specs.Calls.{status_answer, status_count, status_held, status_mark}
use Rattle.console_commands.specs.Commands.{ids_most, do_status}
use Rattle.console_answers.specs.Outcomes.{with_text}
use Rattle.console_limits.specs.Asked.{asked_reason}
use Rattle.console_pools.specs.Beside.{beside}

-- what status answers over the ids of a line
abbrev pub status_number : State → ℕ → List ℕ → ℕ
status_number s τ ids = status_answer s τ ids (length ids) (length ids) (length ids)

-- for each id its count, its lanes held and its mark; a refusal says why
unfoldable pub status_text : State → ℕ → List ℕ → List ℕ
status_text s τ ids =
    with_text (status_number s τ ids) 0
    (beside ids (map (λ i. status_count s i) ids) (map (λ i. status_held s i τ) ids) (map (λ i. status_mark s i) ids) (length ids))
    ++ asked_reason (status_number s τ ids) do_status (τ ∷ ids) s.last

-- the ids of a line of so many numbers, which follow the time
unfoldable pub ids_in : List ℕ → ℕ → List ℕ
ids_in numbers count = take (min (count - 1) ids_most) (drop 1 numbers)
