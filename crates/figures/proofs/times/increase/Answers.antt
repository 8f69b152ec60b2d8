-- `figures::times::increase` meets its contract: where padding makes no slot longer, nothing is left.
use mathlib.Core.Path.{◌≡◌, refl}
use mathlib.Core.Logic.{⊎_elim}
use Prim.Native.Nat.{ℕ, ◌+◌, ◌-◌, ◌/◌, ◌<◌}
use native.Mathlib.Omega.{arith}
use borrow.Author.Tests.{ltb-true}
use lib.Dec.{ltb}
use Rattle.rules.specs.Refusals.{pick}
use Rattle.rules.proofs.Tests.{decide}
use Rattle.figures.specs.Times.{increase_of}
use Rattle.figures.proofs.times.increase.Goals as goal

left : (t u : ℕ) → (t - u + 600) / 1200 ≡ pick (ltb t u) 0 ((t - u + 600) / 1200)
left t u =
    ⊎_elim (λ e. let l : t < u = ltb-true t u e in let z : t - u ≡ 0 = omega arith in rw (e, z) refl) (λ e. rw e refl) (decide (ltb t u))

pub returns : goal.returns
unfolding increase_of
returns c = rw (c.saturating_sub.ensures, ← c.slot_ms-padded.ensures.is, ← c.slot_ms-plain.ensures.is) (left _ _)
