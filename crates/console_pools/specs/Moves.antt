-- What the planner lists (docs/CONSOLE.md, "Commands": planner).
use Rattle.std.specs.Prelude.{ℕ, ◌+◌, ◌-◌, min, List, [], ◌++◌, map, length, get_or, take}
use Rattle.story.specs.declared.State.{State}
use Rattle.planner.specs.Moves.{Move}
use Rattle.planner.specs.Outcome.{planner_answer, given}
use Rattle.console_commands.specs.Commands.{titles_most, room_most, do_planner}
use Rattle.console_answers.specs.Outcomes.{with_text}
use Rattle.console_limits.specs.Asked.{asked_reason}
use Rattle.console_pools.specs.Beside.{beside}
use Rattle.console_pools.specs.Shares.{column}

-- the events of a planner's list, in their order: title, time and count of each
unfoldable pub list_text : List Move → List ℕ
list_text ms = beside (map (λ m. m.title) ms) (map (λ m. m.time) ms) (map (λ m. m.count) ms) [] (length ms)

-- what the planner lists, with room for so many events, for a line of the numbers ns; a refusal says why
unfoldable pub planner_text : List ℕ → State → ℕ → List ℕ → ℕ → List ℕ
planner_text ns s τ rates room =
    with_text (planner_answer s τ rates room) 0 (list_text (given s τ rates room))
    ++ asked_reason (planner_answer s τ rates room) do_planner ns s.last

-- how many rates follow the time and the room in a line of so many numbers
abbrev pub rates_of : ℕ → ℕ
rates_of count = min (count - 2) titles_most

-- the rates of a line
unfoldable pub rates_in : List ℕ → ℕ → List ℕ
rates_in numbers count = take (rates_of count) (column numbers 2 1 titles_most)

unfoldable pub planner_in : State → List ℕ → ℕ → List ℕ
planner_in s numbers count =
    planner_text (take (2 + rates_of count) numbers) s (get_or numbers 0 0) (rates_in numbers count) (min (get_or numbers 1 0) room_most)
