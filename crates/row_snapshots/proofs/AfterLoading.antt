-- A box that loads a snapshot and takes the notices that follow is the agent that heard all of them in order. Series are newest first, so
-- `later ++ earlier` is heard from its end on; whatever is refused on the way is refused alike.
-- 1. An agent after any series is one that a snapshot holds: its arrays have their lengths (`after_whole_lem`), its state is within its limits
--    (`after_within`), and its sequence fits 32 bits where the strings are of bytes (`after_fits`).
-- 2. Its snapshot loads as it: `loads_as_heard`.
-- 3. Taking what follows from there gives the agent after the whole series: `goes_on`. So it does in place, number for number of the row
--    that was loaded: `row_goes_on`.
-- Rests on what was saved loading as the same agent.
use mathlib.Core.Path.{◌≡◌, ap, ◌∙◌}
use mathlib.Core.Bool.{true}
use mathlib.Core.List.{List, ◌++◌}
use Prim.Native.Nat.{ℕ}
use lib.ListN.{length}
use Rattle.story.specs.Kept.{state_ok}
use Rattle.story.specs.Runs.{lanes_of}
use Rattle.story.proofs.Runs.{lanes_limit, sound_state}
use Rattle.story.proofs.Reached.{run_told}
use Rattle.agent.specs.declared.Agent.{Agent}
use Rattle.agent.specs.Series.{agent_after, events_heard}
use Rattle.agent.proofs.Order.{follows}
use Rattle.agent_rows.specs.Layout.{row_length}
use Rattle.agent_rows.specs.Packed.{packed, unpacked}
use Rattle.snapshots.specs.Bytes.{snapshot_of}
use Rattle.row_snapshots.specs.Calls.{RowLoads}
use Rattle.row_snapshots.specs.Taken.{taken_from, row_taken, AllBytes}
use Rattle.row_snapshots.proofs.SameAgent.{is_loaded}
use Rattle.row_snapshots.proofs.SeriesTaken.{from_there, row_from_there}
pub use Rattle.row_snapshots.proofs.Whole.{after_whole_lem}
pub use Rattle.row_snapshots.proofs.Sequence.{after_fits}

pub after_within : (pool : ℕ) (bss : List (List ℕ)) → state_ok (agent_after pool bss).state ≡ true
after_within pool bss =
    sound_state (lanes_of pool) (lanes_limit pool) (events_heard pool bss) (agent_after pool bss).state
    (run_told pool (events_heard pool bss) (agent_after pool bss).state (follows pool bss).run)

module _ (pool : ℕ) (earlier : List (List ℕ)) (bytes : AllBytes earlier) (lent : List ℕ) (answer : ℕ) (after : List ℕ)
    (is : length lent ≡ row_length) (loads : RowLoads lent (snapshot_of (packed (agent_after pool earlier))) answer after) where
  pub loads_as_heard : (answer ≡ 0) × ((after ≡ packed (agent_after pool earlier)) × (unpacked after ≡ agent_after pool earlier))
  loads_as_heard =
      is_loaded (agent_after pool earlier) (after_whole_lem pool earlier) (after_fits pool earlier bytes) (after_within pool earlier) lent answer
      after is loads

  pub goes_on : (later : List (List ℕ)) → taken_from (unpacked after) later ≡ agent_after pool (later ++ earlier)
  goes_on later = ap (λ (g : Agent). taken_from g later) loads_as_heard.1.1 ∙ from_there pool earlier later

  pub row_goes_on : (later : List (List ℕ)) → AllBytes later → row_taken after later ≡ packed (agent_after pool (later ++ earlier))
  row_goes_on later new = ap (λ (row : List ℕ). row_taken row later) loads_as_heard.1.0 ∙ row_from_there pool earlier later bytes new
