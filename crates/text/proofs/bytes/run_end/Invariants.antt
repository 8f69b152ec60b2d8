-- What the loop keeps.
use Prim.Native.Nat.{◌≤◌, max}
use mathlib.Core.Path.{◌≡◌}
use lib.ListN.{length}
use Rattle.text.specs.Bytes.{run_end}
use Rattle.text.proofs.bytes.run_end.Given as goal

abbrev pub invariant-loop-i : goal.invariant-loop-i
invariant-loop-i l = (run_end l.sort l.s l.i ≡ run_end l.sort l.s l.from) × (l.i ≤ max l.from (length l.s))
