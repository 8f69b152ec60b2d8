-- What the loop keeps.
use mathlib.Core.Path.{◌≡◌}
use mathlib.Core.Bool.{true}
use Rattle.rules.specs.Search.{every}
use Rattle.story.specs.Kept.{slot_ok}
use Rattle.limits.proofs.slots_ok.Given as goal

abbrev pub invariant-loop-i : goal.invariant-loop-i
invariant-loop-i l = every (slot_ok l.fn.s) l.i ≡ true
