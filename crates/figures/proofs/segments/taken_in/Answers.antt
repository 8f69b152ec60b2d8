-- `figures::segments::taken_in_lem` meets its contract: the plan is accepted, and its row holds each cell's tick.
use mathlib.Core.Path.{refl, ap, ◌∙◌}
use mathlib.Core.List.{List}
use Prim.Native.Nat.{ℕ, ◌-◌}
use native.Mathlib.Omega.{arith}
use lib.ListN.{get_or}
use Rattle.rules.specs.Refusals.{first_hit}
use Rattle.grid.specs.Ticks.{slot}
use Rattle.scheme.specs.Scheme.{starts}
use Rattle.plans.specs.Padded.{plan_answer}
use Rattle.plans.proofs.padded.Row.{row_first_lem}
use Rattle.figures.proofs.segments.taken_in.Goals as goal

pub returns : goal.returns
unfolding plan_answer first_hit slot starts
returns c =
    let s = c in
    c.from.ensures
    ∙ (ap (λ (r : List ℕ). get_or r (s.args.segment - 1) 0) c.plan.ensures.left
    ∙ row_first_lem 4 4 4 0 _ refl (s.args.segment - 1) (omega (arith, s.requires)))
