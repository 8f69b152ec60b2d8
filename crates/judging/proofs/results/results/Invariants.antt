-- What the loop keeps.
use Prim.Native.Nat.{◌≤◌}
use Rattle.judging.specs.Record.{ticks_in}
use Rattle.judging.specs.inner.Walk.{Nexts, Results}
use Rattle.judging.proofs.results.results.Given as goal

abbrev pub invariant-loop-start : goal.invariant-loop-start
invariant-loop-start l = (l.start ≤ ticks_in l.air) × (Nexts l.air l.start l.next × Results l.air l.cells l.length l.tick l.start l.results)
