-- What was saved loads as the same agent. Of every agent whose arrays have their lengths, whose sequence fits 32 bits and whose state is
-- within its limits:
-- 1. its row is saved, into any room that is long enough: `is_saved`;
-- 2. what was saved is a snapshot: `is_snapshot_lem`;
-- 3. it loads into any row of the right length, as the agent's row, and that row is the agent: `is_loaded`.
-- Rests on the agent's row being one that a snapshot holds, and on `packed` and `unpacked` being each other's inverse.
use mathlib.Core.Path.{◌≡◌, ap, ◌∙◌}
use mathlib.Core.Bool.{true}
use mathlib.Core.List.{List, ◌++◌}
use Prim.Native.Nat.{ℕ, ◌≤◌, ◌<◌}
use lib.ListN.{length, drop}
use borrow.Author.Tests.{eq-eqb, le-ltb, lt-ltb}
use Rattle.rules.specs.Refusals.{first_hit}
use Rattle.rules.proofs.Tests.{both_in}
use Rattle.story.specs.Kept.{state_ok}
use Rattle.agent.specs.declared.Agent.{Agent}
use Rattle.agent_rows.specs.Layout.{row_length, sequence_end}
use Rattle.agent_rows.specs.Packed.{packed, unpacked, row_sound, WholeAgent}
use Rattle.agent_rows.proofs.Inverse.{unpacked_packed}
use Rattle.snapshots.specs.Bytes.{snapshot_size, snapshot_of, numbers_in, is_snapshot}
use Rattle.snapshots.proofs.ComesBack.{saved_fits, saved_loads}
use Rattle.row_snapshots.specs.Calls.{is_within, RowSaves, RowLoads}
use Rattle.row_snapshots.proofs.Small.{row_length_lem, packed_row}

module _ (g : Agent) (w : WholeAgent g) (fits : g.sequence < sequence_end) (ok : state_ok g.state ≡ true) where
  within : is_within (packed g) ≡ true
  within =
      both_in (row_sound (packed g)) (state_ok (unpacked (packed g)).state) (lt-ltb g.sequence sequence_end fits)
      (ap (λ (h : Agent). state_ok h.state) (unpacked_packed g w) ∙ ok)

  pub is_saved : (room : List ℕ) (answer : ℕ) (after : List ℕ) → snapshot_size ≤ length room → RowSaves (packed g) room answer after
      → (answer ≡ 0) × (after ≡ snapshot_of (packed g) ++ drop snapshot_size room)
  unfolding first_hit
  is_saved room answer after long s =
      let answered : answer ≡ 0 = s.answers ∙ rw (eq-eqb _ _ (row_length_lem g w), le-ltb _ _ long, within) in
      (answered, s.leaves ∙ rw answered)

  pub is_snapshot_lem : is_snapshot (snapshot_of (packed g)) ≡ true
  is_snapshot_lem = saved_fits (packed g) (packed_row g w fits ok)

  numbers : numbers_in (snapshot_of (packed g)) row_length ≡ packed g
  numbers = saved_loads (packed g) (packed_row g w fits ok)

  pub is_loaded : (lent : List ℕ) (answer : ℕ) (after : List ℕ) → length lent ≡ row_length
      → RowLoads lent (snapshot_of (packed g)) answer after
      → (answer ≡ 0) × ((after ≡ packed g) × (unpacked after ≡ g))
  unfolding first_hit
  is_loaded lent answer after is l =
      let answered : answer ≡ 0 = l.answers ∙ rw (eq-eqb _ _ is, is_snapshot_lem, numbers, within) in
      let row : after ≡ packed g = l.leaves ∙ rw answered numbers in
      (answered, (row, ap unpacked row ∙ unpacked_packed g w))
