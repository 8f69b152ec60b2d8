-- `state_in` meets its contract: its parts are the definition's.
use mathlib.Core.List.{List}
use Prim.Native.Nat.{ℕ}
use Rattle.story.specs.declared.State.{State}
use Rattle.story.specs.declared.Title.{Title}
use Rattle.agent_rows.specs.Packed.{unpacked}
use Rattle.row_questions.proofs.standing.state_in.Goals as goal

-- a state with this time, by its pool and its titles
abbrev made : ℕ → ℕ → List Title → State
made last pool titles = record { pool = pool; last = last; titles = titles }

pub returns : goal.returns
returns c =
    let row = c.args.row.now in
    λ i. made (unpacked row).state.last (c.pool_in.ensures i) (c.titles_in.ensures i)
