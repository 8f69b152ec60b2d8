-- A row that is filled from its first place on. Rests on the laws of stores into a list.
use mathlib.Core.Path.{◌≡◌, ◌∙◌}
use mathlib.Core.List.{List}
use mathlib.Core.Logic.{⊎_elim}
use Prim.Native.Nat.{ℕ, ◌+◌, ◌<◌}
use native.Mathlib.Omega.{arith}
use lib.ListN.{length, get_or, set}
use lib.Seq.{get_or-set_same, get_or-set_other}
use Rattle.rules.proofs.Search.{below_suc}

-- its first n places hold the values of f
abbrev pub Filled : (ℕ → ℕ) → List ℕ → ℕ → Type 0
Filled f row n = (i : ℕ) → i < n → get_or row i 0 ≡ f i

-- one place more
pub filled_next : (f : ℕ → ℕ) (row : List ℕ) (n v : ℕ) → n < length row → Filled f row n → v ≡ f n → Filled f (set row n v) (n + 1)
filled_next f row n v room h e i l =
    ⊎_elim (λ b. get_or-set_other row n i v 0 (omega arith) ∙ h i b) (λ s. rw s (get_or-set_same row n v 0 room ∙ e))
    (below_suc i n (omega arith))
