-- `figures::steady::taken_from` meets its contract: the plan is accepted, and its row is handed on number by number.
-- Rests on the laws of the skip-forward plan's row.
use mathlib.Core.Path.{◌≡◌, refl, ap, ◌∙◌}
use mathlib.Core.List.{List}
use Prim.Native.Nat.{ℕ, ◌≤◌, ◌<◌}
use native.Mathlib.Omega.{arith}
use lib.ListN.{length, get_or, length-set}
use borrow.Author.Tests.{le-leb}
use Rattle.rules.specs.Limits.{asked_max}
use Rattle.plans.specs.Forward.{skip_at}
use Rattle.plans.specs.Row.{skip_row}
use Rattle.plans.proofs.forward.Refusals.{accepted}
use Rattle.plans.proofs.forward.Row.{row_first_lem, row_length_lem}
use Rattle.figures.proofs.Filling.{Filled, filled_next}
use Rattle.figures.proofs.steady.taken_from.Goals as goal

-- 8 places are enough for 4 lanes
planned : (start : ℕ) (lent plan : List ℕ) → start ≤ asked_max → length lent ≡ 8 → plan ≡ skip_row 4 start lent →
    (length plan ≡ 8) × Filled (skip_at 4 start) plan 8
planned start lent plan time size is =
    let yes = accepted 4 start (length lent) (le-leb start asked_max time) (omega arith) in
    (ap length is ∙ row_length_lem 4 start lent ∙ size, λ i l. ap (λ (r : List ℕ). get_or r i 0) is ∙ row_first_lem 4 start lent yes i l)

pub loop-i-init : goal.loop-i-init
loop-i-init c = (refl, ((λ i l. absurd (omega arith)), planned c.args.start _ _ c.requires refl c.skip_plan.ensures.left))

pub loop-i-preserved : goal.loop-i-preserved
loop-i-preserved c =
    let l = c.loop-i in
    let more : l.i < 8 = omega (arith, l.invariant.1.1.0) in
    let v : ℕ = c.from.result in
    let given : v ≡ skip_at 4 c.args.start l.i = c.from.ensures ∙ l.invariant.1.1.1 l.i more in
    let room : l.i < length l.row = omega (arith, l.invariant.0, more) in (
      length-set l.row l.i v ∙ l.invariant.0,
      (filled_next (skip_at 4 c.args.start) l.row l.i v room l.invariant.1.0 given, l.invariant.1.1),
    )

pub returns : goal.returns
returns c =
    let l = c.loop-i in
    record { size = l.invariant.0; value = λ i b. l.invariant.1.0 i (omega (arith, l.invariant.1.1.0)) }
