-- `owed_within` meets its contract: the loop's number is the count of the owed ticks passed.
use Prim.Native.Nat.{◌+◌}
use mathlib.Core.Path.{refl, ap, ap₂, ◌∙◌}
use mathlib.Core.Bool.{Bool}
use native.Mathlib.Omega.{arith}
use native.Mathlib.Numerals.{add-one}
use native.Mathlib.Nat.{le_antisymm}
use Rattle.rules.specs.Refusals.{pick}
use Rattle.rules.specs.Search.{how_many}
use Rattle.measures.proofs.Active.{byte_pick, byte_le}
use Rattle.story.specs.Kept.{kept_within}
use Rattle.owed.proofs.owing.owed_within.Goals as goal

pub loop-i-init : goal.loop-i-init
unfolding kept_within how_many
loop-i-init c = (refl, omega arith)

pub loop-i-preserved : goal.loop-i-preserved
unfolding kept_within how_many
loop-i-preserved c =
    let at = c in
    let a = at.args in
    let l = at.loop-i in (
      rw add-one (ap₂ ◌+◌ l.invariant.0 (c.from-owed.ensures ∙ byte_pick c.is_owed.result ∙ ap (λ (b : Bool). pick b 1 0) c.is_owed.ensures)),
      omega (arith, byte_le c.is_owed.result),
    )

pub returns : goal.returns
returns c =
    let l = c.loop-i in
    let a = c.args in
    let e = le_antisymm l.auto.i-end c.loop-i-test.false in
    record { is = l.invariant.0 ∙ ap (kept_within a.t a.lane a.from) e; low = omega arith; high = omega (arith, e, l.invariant.1) }
