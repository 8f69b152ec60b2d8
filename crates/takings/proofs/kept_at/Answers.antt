-- `takings::kept_at` meets its contract: cell by cell.
use Prim.Native.Nat.{◌≤◌}
use mathlib.Core.Bool.{Bool, true, false}
use mir.Val.{bool_byte}
use mathlib.Core.Path.{refl, ◌≡◌, sym, ap, ◌∙◌}
use native.Mathlib.Omega.{arith}
use native.Mathlib.Nat.{le_antisymm}
use Rattle.rules.specs.Refusals.{pick}
use Rattle.rules.specs.Search.{how_many}
use Rattle.takings.specs.Takings.{is_kept, kept_at}
use Rattle.takings.proofs.Places.{count_none, count_on}
use Rattle.takings.proofs.kept_at.Goals as goal

-- a test as a number
bit : (b : Bool) → bool_byte b ≡ pick b 1 0
bit true = refl
bit false = refl

bit_le : (b : Bool) → bool_byte b ≤ 1
bit_le true = omega arith
bit_le false = omega arith

pub loop-cell-init : goal.loop-cell-init
loop-cell-init c = (sym (count_none _), omega arith)

pub loop-cell-preserved : goal.loop-cell-preserved
unfolding is_kept
loop-cell-preserved c =
    let l = c.loop-cell in
    (count_on _ l.cell _ _ l.invariant.0 (c.from-many.ensures ∙ bit _ ∙ ap (λ b. pick b 1 0) c.is_kept.ensures), omega (arith, l.invariant.1, c.from-many.ensures, bit_le c.is_kept.result))

pub returns : goal.returns
unfolding kept_at
returns c =
    let l = c.loop-cell in
    let all = le_antisymm l.auto.cell-end c.loop-cell-test.false in
    (l.invariant.0 ∙ ap (how_many _) all, omega (arith, l.invariant.1, c.requires))
