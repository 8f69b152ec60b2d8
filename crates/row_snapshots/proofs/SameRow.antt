-- Whatever row `save` accepts, `load` reads what it wrote as that row, into any row of the right length: `saved_bytes`, `row_comes_back`.
-- Rests on what was saved loading as the same agent, of the agent that the row is.
use mathlib.Core.Path.{◌≡◌, refl, sym, ap, ◌∙◌}
use mathlib.Core.Bool.{Bool, true, false, not}
use mathlib.Core.List.{List, [], ◌∷◌}
use Prim.Native.Nat.{ℕ, ◌<◌}
use native.Mathlib.Omega.{arith}
use lib.Dec.{eqb, ltb}
use lib.ListN.{length, get_or, take, drop}
use lib.Seq.{take_at}
use borrow.Author.Tests.{eqb-true, ltb-true}
use Rattle.rules.specs.Limits.{either}
use Rattle.rules.specs.Refusals.{first_hit, refuse, outside_limits, wrong_rows}
use Rattle.rules.proofs.Tests.{both_l, both_r, either_false_l}
use Rattle.story.specs.Kept.{state_ok}
use Rattle.agent_rows.specs.Layout.{row_version, row_length, version_at, sequence_at, sequence_end}
use Rattle.agent_rows.specs.Packed.{packed, unpacked, row_sound}
use Rattle.agent_rows.proofs.Inverse.{packed_unpacked, whole_unpacked}
use Rattle.snapshots.specs.Bytes.{snapshot_size, snapshot_of}
use Rattle.snapshots.proofs.Laying.{length_snapshot}
use Rattle.row_snapshots.specs.Calls.{is_other_length, is_within, RowSaves, RowLoads}
use Rattle.row_snapshots.proofs.SameAgent.{is_loaded}

-- what 0 says of the tests
passed : (a w : Bool) → 0 ≡ first_hit (refuse wrong_rows a ∷ refuse outside_limits (not w) ∷ []) → (a ≡ false) × (w ≡ true)
unfolding first_hit
passed true w e = absurd (omega arith)
passed false true e = (refl, refl)
passed false false e = absurd (omega arith)

same : (b : Bool) → not b ≡ false → b ≡ true
same true e = refl
same false e = sym e

module _ (row room after : List ℕ) (saves : RowSaves row room 0 after) where
  tests : (either (is_other_length row) (ltb (length room) snapshot_size) ≡ false) × (is_within row ≡ true)
  tests = passed _ (is_within row) saves.answers

  long : length row ≡ row_length
  long = eqb-true (length row) row_length (same _ (either_false_l _ _ tests.0))

  sound : row_sound row ≡ true
  sound = both_l _ (state_ok (unpacked row).state) tests.1

  is_row : packed (unpacked row) ≡ row
  is_row = packed_unpacked row long sound

  pub saved_bytes : take snapshot_size after ≡ snapshot_of row
  saved_bytes = ap (take snapshot_size) saves.leaves ∙ take_at (snapshot_of row) (drop snapshot_size room) snapshot_size (length_snapshot row long)

  pub row_comes_back : (lent : List ℕ) (answer : ℕ) (left : List ℕ) → length lent ≡ row_length → RowLoads lent (take snapshot_size after) answer left
      → (answer ≡ 0) × (left ≡ row)
  row_comes_back lent answer left is loads =
      let l : RowLoads lent (snapshot_of (packed (unpacked row))) answer left = rw is_row (rw saved_bytes at loads) in
      let sequence : get_or row sequence_at 0 < sequence_end =
      ltb-true _ _ (both_r (eqb (get_or row version_at 0) row_version) (ltb (get_or row sequence_at 0) sequence_end) sound) in
      let back = is_loaded (unpacked row) (whole_unpacked row long) sequence (both_r (row_sound row) (state_ok (unpacked row).state) tests.1) lent answer left is l in
      (back.0, back.1.0 ∙ is_row)
