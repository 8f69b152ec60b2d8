-- `tick_at` meets its contract: a quotient is no more than what is divided.
use Prim.Native.Nat.{◌/◌, ◌≤◌}
use native.Mathlib.Omega.{arith}
use native.Mathlib.Nat.{div-le_self}
use Rattle.story.specs.Kept.{tick_at}
use Rattle.agent_rows.proofs.holding.tick_at.Goals as goal

pub returns : goal.returns
unfolding tick_at
returns c =
    let a = c.saturating_sub in
    let below : a.result / c.tick.result ≤ a.result = div-le_self _ _ in
    record { is = simp (a.ensures, c.tick.ensures.is); low = omega arith; high = omega (arith, a.ensures) }
