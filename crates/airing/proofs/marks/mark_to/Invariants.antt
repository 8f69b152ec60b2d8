-- What the loop keeps.
use mathlib.Core.Path.{◌≡◌}
use Prim.Native.Nat.{◌-◌, ◌≤◌}
use Rattle.story.specs.Kept.{tick_at}
use Rattle.airing.specs.inner.Steps.{marked_from}
use Rattle.airing.proofs.marks.mark_to.Given as goal

abbrev pub invariant-loop-tick : goal.invariant-loop-tick
invariant-loop-tick l = (tick_at l.t l.t.last ≤ l.tick) × (l.tick - tick_at l.t l.t.last ≤ l.end - tick_at l.t l.t.last) × (l.marks ≡ marked_from l.t (tick_at l.t l.t.last) l.initial.marks (l.tick - tick_at l.t l.t.last))
