-- Laws of the lent row of either plan: its first places hold the plan and the later ones what stood there, its length stays, and a
-- refusal leaves it as it was.
-- Rest on the laws of stores into a list.
use mathlib.Core.Path.{◌≡◌, refl, sym, ap, ◌∙◌}
use mathlib.Core.Bool.{true, false}
use mathlib.Core.List.{List}
use mathlib.Core.Logic.{⊎_elim}
use Prim.Native.Nat.{ℕ, zero, suc, ◌+◌, ◌≤◌, ◌<◌}
use native.Mathlib.Omega.{arith}
use lib.Dec.{eqb}
use native.Mathlib.Numerals.{add-one}
use lib.ListN.{length, get_or, set, length-set}
use lib.Seq.{get_or-set_same, get_or-set_other}
use borrow.Author.Tests.{eq-eqb, ne_eqb}
use Rattle.rules.specs.Refusals.{pick, done}
use Rattle.rules.proofs.Search.{below_suc}
use Rattle.plans.specs.Row.{written, filled_row}

module _ (f : ℕ → ℕ) (row : List ℕ) where
  -- one place more
  pub written_next : (r : List ℕ) (n v : ℕ) → r ≡ written f row n → v ≡ f n → set r n v ≡ written f row (n + 1)
  unfolding written
  written_next r n v p q = rw (add-one n, p, q) refl

  pub written_length : (n : ℕ) → length (written f row n) ≡ length row
  unfolding written
  written_length zero = refl
  written_length (suc n) = length-set (written f row n) n (f n) ∙ written_length n

  pub written_later : (n i : ℕ) → n ≤ i → get_or (written f row n) i 0 ≡ get_or row i 0
  unfolding written
  written_later zero i l = refl
  written_later (suc n) i l = get_or-set_other (written f row n) n i (f n) 0 (omega arith) ∙ written_later n i (omega arith)

  pub written_first : (n i : ℕ) → n ≤ length row → i < n → get_or (written f row n) i 0 ≡ f i
  unfolding written
  written_first zero i l h = absurd (omega arith)
  written_first (suc n) i l h =
      ⊎_elim (λ b. get_or-set_other (written f row n) n i (f n) 0 (omega arith) ∙ written_first n i (omega arith) b)
      (λ e. rw e (get_or-set_same (written f row n) n (f n) 0 (omega (arith, written_length n))))
      (below_suc i n h)

-- the row after a call
module _ (answer : ℕ) (f : ℕ → ℕ) (n : ℕ) (row : List ℕ) where
  pub filled_refused : (answer ≡ done → ⊥) → filled_row answer f n row ≡ row
  unfolding filled_row
  filled_refused h = rw (ne_eqb answer done h) refl

  pub filled_length : length (filled_row answer f n row) ≡ length row
  unfolding filled_row
  filled_length =
      elim (eqb answer done) as (λ b. length (pick b (written f row n) row) ≡ length row)
      [ true ↦ written_length f row n | false ↦ refl ]

  module _ (accepted : answer ≡ done) where
    pub filled_done : filled_row answer f n row ≡ written f row n
    unfolding filled_row
    filled_done = rw (eq-eqb answer done accepted) refl

    pub filled_first : (i : ℕ) → n ≤ length row → i < n → get_or (filled_row answer f n row) i 0 ≡ f i
    filled_first i l h = ap (λ r. get_or r i 0) filled_done ∙ written_first f row n i l h

    pub filled_later : (i : ℕ) → n ≤ i → get_or (filled_row answer f n row) i 0 ≡ get_or row i 0
    filled_later i l = ap (λ r. get_or r i 0) filled_done ∙ written_later f row n i l

-- what a call leaves, by its two ways
module _ (answer : ℕ) (f : ℕ → ℕ) (n : ℕ) (row : List ℕ) (r : ℕ) (after : List ℕ) (e : r ≡ answer) where
  pub left_done : r ≡ done → after ≡ written f row n → after ≡ filled_row answer f n row
  left_done d w = w ∙ sym (filled_done answer f n row (sym e ∙ d))

  pub left_refused : (r ≡ done → ⊥) → after ≡ row → after ≡ filled_row answer f n row
  left_refused d w = w ∙ sym (filled_refused answer f n row (λ h. d (e ∙ h)))
