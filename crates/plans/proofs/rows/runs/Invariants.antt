-- What the loop keeps, and what falls.
use mathlib.Core.Path.{◌≡◌}
use Prim.Native.Nat.{◌-◌, ◌^◌}
use Rattle.plans.specs.inner.Rows.{written_from, runs_at}
use Rattle.plans.proofs.rows.runs.Given as goal

abbrev pub invariant-loop-power : goal.invariant-loop-power
invariant-loop-power l = l.row ≡ written_from (runs_at l.base l.phase) l.initial.row (2 ^ l.low - l.base) (2 ^ l.power - 2 ^ l.low)
