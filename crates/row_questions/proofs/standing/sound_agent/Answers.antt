-- `sound_agent` meets its contract: its parts are the definition's.
use mathlib.Core.List.{List}
use Prim.Native.Nat.{ℕ}
use Rattle.story.specs.declared.Title.{Title}
use Rattle.agent.specs.declared.Agent.{Agent}
use Rattle.agent_rows.specs.Packed.{unpacked}
use Rattle.row_questions.proofs.standing.sound_agent.Goals as goal

-- an agent with this pool and time, by its sequence and its titles
abbrev made : ℕ → ℕ → ℕ → List Title → Agent
made pool last sequence titles = record { sequence = sequence; state = record { pool = pool; last = last; titles = titles } }

pub returns : goal.returns
returns c =
    let named = c in
    let row = named.args.row.now in
    λ i. made (unpacked row).state.pool (unpacked row).state.last (named.sequence_in.ensures i) (named.titles_in.ensures i)
