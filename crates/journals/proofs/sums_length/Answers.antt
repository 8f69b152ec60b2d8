-- `sums_length` meets its contract: the product, and no more than 64 bits count.
use Prim.Native.Nat.{ℕ, ◌*◌, ◌-◌, ◌/◌, ◌^◌, ◌≤◌, ◌<◌, min}
use mathlib.Core.Path.{◌≡◌, ◌∙◌}
use mathlib.Core.Logic.{⊎_elim}
use native.Mathlib.Omega.{arith}
use borrow.Author.Tests.{leb-true, leb-false}
use lib.Dec.{leb}
use Rattle.rules.specs.Refusals.{pick}
use Rattle.rules.proofs.Tests.{decide}
use Rattle.journals.specs.Start.{sums_length}
use Rattle.journals.proofs.sums_length.Goals as goal

within : (n : ℕ) → n ≤ (2 ^ 64 - 1) / 4 → min (n * 4) (2 ^ 64 - 1) ≡ n * 4
within n h = omega arith

beyond : (n : ℕ) → (2 ^ 64 - 1) / 4 < n → min (n * 4) (2 ^ 64 - 1) ≡ 2 ^ 64 - 1
beyond n h = omega arith

counted : (n : ℕ) → min (n * 4) (2 ^ 64 - 1) ≡ pick (leb n ((2 ^ 64 - 1) / 4)) (n * 4) (2 ^ 64 - 1)
counted n =
    ⊎_elim (λ e. rw e (within n (leb-true _ _ e))) (λ e. rw e (beyond n (leb-false _ _ e))) (decide (leb n ((2 ^ 64 - 1) / 4)))

pub returns : goal.returns
unfolding sums_length
returns c = c.saturating_mul.ensures ∙ counted c.args.start.heard
