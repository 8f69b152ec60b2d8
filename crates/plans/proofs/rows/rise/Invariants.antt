-- What the loop keeps, and what falls.
use mathlib.Core.Path.{◌≡◌}
use Rattle.plans.specs.inner.Rows.{written_from, rising_at}
use Rattle.plans.proofs.rows.rise.Given as goal

abbrev pub invariant-loop-risen : goal.invariant-loop-risen
invariant-loop-risen l = l.row ≡ written_from (rising_at l.from l.first) l.initial.row l.from l.risen
