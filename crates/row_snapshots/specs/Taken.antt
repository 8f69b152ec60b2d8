-- An agent that takes byte strings from where it stands (01, "Notices").
use Rattle.std.specs.Prelude.{ℕ, List, [], ◌∷◌, get_or}
use Rattle.notice.specs.Decode.{read_of}
use Rattle.notice.specs.Log.{Bytes}
use Rattle.agent.specs.declared.Agent.{Agent}
use Rattle.agent.specs.Turns.{noticed}
use Rattle.row_calls.specs.Answers.{row_after_notice}

-- the agent after a series, newest first; it stays as it is at each that it refuses
unfoldable pub taken_from : Agent → List (List ℕ) → Agent
taken_from g [] = g
taken_from g (bs ∷ bss) = noticed (taken_from g bss) (read_of bs)

-- the same of an agent lent as a row, each string taken in place
unfoldable pub row_taken : List ℕ → List (List ℕ) → List ℕ
row_taken row [] = row
row_taken row (bs ∷ bss) = row_after_notice (row_taken row bss) (read_of bs)

-- each string of a series is of bytes
abbrev pub AllBytes : List (List ℕ) → Type 0
AllBytes bss = (i : ℕ) → Bytes (get_or bss i [])
