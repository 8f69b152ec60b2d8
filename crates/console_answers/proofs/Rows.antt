-- Laws of rows: the loops that write one place by place, and the lengths of those that the questions lend.
use Prim.Native.Nat.{ℕ, zero, suc, ◌+◌, ◌<◌, ◌≤◌}
use mathlib.Core.Path.{◌≡◌, refl}
use mathlib.Core.List.{List}
use native.Mathlib.Omega.{arith}
use native.Mathlib.Numerals.{add-one}
use lib.ListN.{length, take, length-take}
use Rattle.text.specs.declared.page.Page.{Page}
use Rattle.text.specs.Pages.{Puts}
use Rattle.text.proofs.Pages.{then, nothing}
use Rattle.console_answers.specs.Entries.{each}

-- places written one by one, each by its text: p is the page before the first of them, q the page behind the i-th
module _ (f : ℕ → List ℕ) {p : Page} where
  pub each_none : Puts p (each f 0) p
  unfolding each
  each_none = nothing

  pub each_more : (i : ℕ) {q r : Page} → Puts p (each f i) q → Puts q (f i) r → Puts p (each f (i + 1)) r
  unfolding each
  each_more i h g = rw add-one (then h g)

-- rows that agree in their first places are written alike
pub each_same : (f g : ℕ → List ℕ) (n : ℕ) → ((j : ℕ) → j < n → f j ≡ g j) → each f n ≡ each g n
unfolding each
each_same f g zero h = refl
each_same f g (suc n) h = rw (each_same f g n (λ j l. h j (omega arith)), h n (omega arith))

-- a part from the start on is as long as asked
pub counted : (n m : ℕ) (row : List ℕ) → length row ≡ m → n ≤ m → n ≡ length (take n row)
counted n m row e h = rw length-take (omega arith)
