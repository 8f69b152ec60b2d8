-- The changes that bring a pool to its sharing, as lines that can be entered (docs/CONSOLE.md, "Commands": balance).
use Rattle.std.specs.Prelude.{ℕ, ◌+◌, ◌*◌, Bool, List, ◌++◌, leb, eqb, length, get_or, take}
use Rattle.rules.specs.Limits.{id_max, titles_max}
use Rattle.rules.specs.Refusals.{pick, done, outside_limits}
use Rattle.rules.specs.Search.{every}
use Rattle.story.specs.declared.State.{State}
use Rattle.planner.specs.Moves.{Move}
use Rattle.planner.specs.Outcome.{planner_answer, given}
use Rattle.text.specs.Texts.{text}
use Rattle.text.specs.Digits.{decimal}
use Rattle.console_commands.specs.Commands.{do_balance}
use Rattle.console_limits.specs.Asked.{asked_reason}
use Rattle.words.specs.Words.{refusal_text}
use Rattle.console_answers.specs.Entries.{entry, each}
use Rattle.console_balance.specs.Rates.{pairs_in, pair_id, rates_by}

abbrev pub move_to : ℕ → ℕ → ℕ → Move
move_to i τ k = record { title = i; time = τ; count = k }

abbrev pub no_move : Move
no_move = move_to 0 0 0

-- a change as it is entered
unfoldable pub change_text : Move → List ℕ
change_text m = ((text "change" ++ entry m.title) ++ entry m.time) ++ entry m.count

-- the same on a line of its own
unfoldable pub change_line : Move → List ℕ
change_line m = text "\n" ++ change_text m

-- how many changes there are, as a line that asks nothing
unfoldable pub many_text : ℕ → List ℕ
many_text n = text "# changes: " ++ decimal n

-- a list of changes
unfoldable pub changes_text : List Move → List ℕ
changes_text ms = many_text (length ms) ++ each (λ (j : ℕ). change_line (get_or ms j no_move)) (length ms)

-- the same of changes whose numbers stand in the first n places of three rows
abbrev pub row_lines : List ℕ → List ℕ → List ℕ → ℕ → List ℕ
row_lines is ts ks n = each (λ (j : ℕ). change_line (move_to (get_or is j 0) (get_or ts j 0) (get_or ks j 0))) n

unfoldable pub rows_text : List ℕ → List ℕ → List ℕ → ℕ → List ℕ
rows_text is ts ks n = many_text n ++ row_lines is ts ks n

-- what the planner lists over a row of rates, with room for so many changes
unfoldable pub listed_text : State → ℕ → List ℕ → ℕ → List ℕ
listed_text s τ rates room =
    pick (eqb (planner_answer s τ rates room) done) (changes_text (given s τ rates room)) (refusal_text (planner_answer s τ rates room) 0)

-- the ids of a line of so many numbers are ids
unfoldable pub pairs_ok : List ℕ → ℕ → Bool
pairs_ok numbers count = every (λ k. leb (pair_id numbers k) id_max) (pairs_in count)

-- what the line is answered by number: 1 where an id is none, else as the planner with a place for each title
unfoldable pub balance_answer : State → List ℕ → ℕ → ℕ
balance_answer s numbers count =
    pick (pairs_ok numbers count) (planner_answer s (get_or numbers 0 0) (rates_by numbers (pairs_in count)) titles_max) outside_limits

-- the changes that it lists
abbrev pub balance_moves : State → List ℕ → ℕ → List Move
balance_moves s numbers count = given s (get_or numbers 0 0) (rates_by numbers (pairs_in count)) titles_max

-- and its text
unfoldable pub balance_told : State → List ℕ → ℕ → List ℕ
balance_told s numbers count =
    pick (pairs_ok numbers count) (listed_text s (get_or numbers 0 0) (rates_by numbers (pairs_in count)) titles_max)
    (refusal_text outside_limits 0)

-- what stands behind the answer a, by the line's time and pairs
unfoldable pub balance_reason : ℕ → ℕ → List ℕ → ℕ → List ℕ
balance_reason a last numbers count = asked_reason a do_balance (take (1 + 2 * pairs_in count) numbers) last

unfoldable pub balance_text : State → List ℕ → ℕ → List ℕ
balance_text s numbers count =
    balance_told s numbers count ++ balance_reason (balance_answer s numbers count) s.last numbers count
