-- What the loop keeps.
use mathlib.Core.Path.{◌≡◌}
use lib.Dec.{ltb, eqb}
use lib.ListN.{get_or}
use Rattle.rules.specs.Limits.{either}
use Rattle.judging.specs.Record.{nothing_seen}
use mathlib.Core.Bool.{true}
use Prim.Native.Nat.{ℕ, ◌<◌}
use Rattle.airing.proofs.reasons.stray_of.Given as goal

abbrev pub invariant-loop-i : goal.invariant-loop-i
invariant-loop-i l = (k : ℕ) → k < l.i → either (eqb (get_or l.«record» k 0) nothing_seen) (ltb (get_or l.«record» k 0) l.cells) ≡ true
