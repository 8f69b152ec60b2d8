-- What the loop keeps.
use mathlib.Core.Path.{◌≡◌}
use lib.ListN.{get_or}
use Rattle.wishes.specs.Passes.{moves_at, pass_to}
use Rattle.wishes.proofs.passes.pass.Given as goal

abbrev pub invariant-loop-i : goal.invariant-loop-i
invariant-loop-i l = l.q ≡ pass_to (moves_at l.up l.fn.s l.shares) (λ j. get_or l.shares j 0) l.initial.q l.i
