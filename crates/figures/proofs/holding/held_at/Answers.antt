-- `held_at` meets its contract: the lane is held just when the question is answered.
use mathlib.Core.Path.{◌≡◌, ap, ◌∙◌}
use Prim.Native.Nat.{ℕ}
use native.Mathlib.Omega.{arith}
use lib.Dec.{eqb}
use mir.Val.{bool_byte}
use Rattle.rules.specs.Refusals.{pick}
use Rattle.grid.specs.Bounds.{Exactly}
use Rattle.figures.proofs.Told.{as_number, at_most_one}
use Rattle.figures.proofs.holding.held_at.Goals as goal

held : (r a x : ℕ) → r ≡ bool_byte (eqb a 0) → a ≡ x → Exactly (pick (eqb x 0) 1 0) 0 1 r
held r a x e f =
    record { is = e ∙ as_number (eqb a 0) ∙ ap (λ n. pick (eqb n 0) 1 0) f; low = omega arith; high = rw e (at_most_one (eqb a 0)) }

pub returns : goal.returns
returns c = held _ _ _ c.from.ensures c.lane.ensures.0
