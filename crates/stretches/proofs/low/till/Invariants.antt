-- What the loop keeps.
use Prim.Native.Nat.{◌-◌}
use lib.Dec.{leb}
use Rattle.rules.specs.Refusals.{pick}
use Rattle.grid.specs.Ticks.{slot as slot_of}
use Rattle.stretches.specs.inner.Walk.{IsMost}
use Rattle.stretches.proofs.low.till.Given as goal

abbrev pub invariant-loop-count : goal.invariant-loop-count
invariant-loop-count l = IsMost l.ends (λ c. pick (leb l.left (slot_of l.cap c)) l.long l.short - slot_of l.cap c) l.initial.count l.count l.most
