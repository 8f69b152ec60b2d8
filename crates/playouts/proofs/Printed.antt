-- Laws of the lines as the code writes them, number by number. Rest on what is written in turn being written as one.
use mathlib.Core.Path.{◌≡◌, refl}
use Prim.Native.Nat.{ℕ, zero, suc, ◌+◌, ◌<◌}
use native.Mathlib.Omega.{arith}
use native.Mathlib.Numerals.{add-one}
use Rattle.text.specs.declared.page.Page.{Page}
use Rattle.text.specs.Pages.{Puts}
use Rattle.text.proofs.Pages.{then, nothing}
use Rattle.playouts.specs.Lines.{carried_text, behind_place, place_line, number_lines}

module _ (f : ℕ → ℕ) (p : Page) where
  pub lines_none : Puts p (number_lines f zero) p
  unfolding number_lines
  lines_none = nothing

  -- one number more, and what stands behind it
  pub lines_next : (j : ℕ) (q r s : Page) → Puts p (number_lines f j) q → Puts q (carried_text (f j)) r → Puts r (behind_place j) s →
      Puts p (number_lines f (j + 1)) s
  unfolding number_lines place_line
  lines_next j q r s e a b = rw (add-one j) (then e (then a b))

-- the text hangs on the numbers alone
pub lines_ext : (f g : ℕ → ℕ) (n : ℕ) → ((j : ℕ) → j < n → f j ≡ g j) → number_lines f n ≡ number_lines g n
unfolding number_lines place_line
lines_ext f g zero same = refl
lines_ext f g (suc j) same = rw (same j (omega arith), lines_ext f g j (λ i lt. same i (omega arith))) refl
