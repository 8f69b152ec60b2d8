-- `sequence_in` meets its contract: a sound row's sequence fits.
use mathlib.Core.Path.{◌≡◌}
use mathlib.Core.Bool.{true}
use mathlib.Core.List.{List}
use Prim.Native.Nat.{ℕ, ◌<◌}
use native.Mathlib.Omega.{arith}
use lib.Dec.{ltb, eqb}
use lib.ListN.{get_or}
use borrow.Author.Tests.{ltb-true}
use Rattle.rules.proofs.Tests.{both_r}
use Rattle.agent_rows.specs.Layout.{row_version, sequence_end, version_at, sequence_at}
use Rattle.agent_rows.specs.Packed.{row_sound}
use Rattle.row_questions.proofs.standing.sequence_in.Goals as goal

fits : (row : List ℕ) → row_sound row ≡ true → get_or row sequence_at 0 < sequence_end
fits row h =
    ltb-true (get_or row sequence_at 0) sequence_end
    (both_r (eqb (get_or row version_at 0) row_version) (ltb (get_or row sequence_at 0) sequence_end) h)

pub overflow_cast-result : goal.overflow_cast-result
overflow_cast-result c = omega (arith, fits c.args.row.now c.requires.row_value)
