-- `console_views::titles::titles_there` meets its contract: the loop's number is how many of the titles passed are there.
use Prim.Native.Nat.{◌≤◌}
use mathlib.Core.Path.{◌≡◌, refl}
use mathlib.Core.Bool.{Bool, true, false}
use mir.Val.{bool_byte}
use native.Mathlib.Omega.{arith}
use native.Mathlib.Numerals.{add-one}
use Rattle.rules.specs.Refusals.{pick}
use Rattle.rules.specs.Search.{how_many}
use Rattle.measures.proofs.Within.{all_readable}
use Rattle.console_views.proofs.titles.titles_there.Goals as goal

-- a title counts as one where it is there
counted : (b : Bool) → (bool_byte b ≡ pick b 1 0) × (bool_byte b ≤ 1)
counted true = (refl, omega arith)
counted false = (refl, omega arith)

pub loop-t-init : goal.loop-t-init
unfolding how_many
loop-t-init c = (refl, omega arith)

pub is_there-requires : goal.is_there-requires
is_there-requires c = all_readable c.args.s c.requires c.loop-t.t-index (omega arith)

pub loop-t-preserved : goal.loop-t-preserved
unfolding how_many
loop-t-preserved c =
    let one = counted c.is_there.result in (
      rw (add-one, ← c.loop-t.invariant.0, ← c.is_there.ensures, c.from-n.ensures, one.0) refl,
      omega (arith, c.loop-t.invariant.1, one.1, c.from-n.ensures),
    )
