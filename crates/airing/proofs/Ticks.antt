-- Laws of a row of marks: those between two ticks are the title's, the others stay. Rest on the laws of stores into a list.
use mathlib.Core.Path.{◌≡◌, refl, ◌∙◌}
use mathlib.Core.List.{List}
use mathlib.Core.Logic.{⊎_elim}
use Prim.Native.Nat.{ℕ, zero, suc, ◌+◌, ◌-◌, ◌≤◌, ◌<◌, min}
use native.Mathlib.Omega.{arith}
use lib.ListN.{length, get_or, set, length-set}
use lib.Seq.{get_or-set_same, get_or-set_other}
use Rattle.rules.proofs.Search.{below_suc}
use Rattle.story.specs.declared.Title.{Title}
use Rattle.story.specs.Kept.{tick_at}
use Rattle.airing.specs.inner.Steps.{mark_in, marked_from, marked_to}

pub sub_zero : (n m : ℕ) → n ≡ m → n - m ≡ 0
sub_zero n m e = omega arith

module _ (t : Title) (u : ℕ) (row : List ℕ) where
  -- one tick more
  pub marked_next : (r : List ℕ) (n v : ℕ) → u ≤ n → r ≡ marked_from t u row (n - u) → v ≡ mark_in t n →
      set r n v ≡ marked_from t u row (n + 1 - u)
  unfolding marked_from
  marked_next r n v le p q =
      let more : n + 1 - u ≡ suc (n - u) = omega arith in
      let here : u + (n - u) ≡ n = omega arith in
      rw (more, here, p, q) refl

  marked_length : (n : ℕ) → length (marked_from t u row n) ≡ length row
  unfolding marked_from
  marked_length zero = refl
  marked_length (suc n) = length-set (marked_from t u row n) (u + n) (mark_in t (u + n)) ∙ marked_length n

  -- an earlier tick stays as it was
  marked_before : (n v : ℕ) → v < u → get_or (marked_from t u row n) v 0 ≡ get_or row v 0
  unfolding marked_from
  marked_before zero v lt = refl
  marked_before (suc n) v lt =
      get_or-set_other (marked_from t u row n) (u + n) v (mark_in t (u + n)) 0 (omega arith) ∙ marked_before n v lt

  -- those marked
  marked_at : (n v : ℕ) → u ≤ v → v < u + n → v < length row → get_or (marked_from t u row n) v 0 ≡ mark_in t v
  unfolding marked_from
  marked_at zero v le lt room = absurd (omega arith)
  marked_at (suc n) v le lt room =
      ⊎_elim
      (λ b. get_or-set_other (marked_from t u row n) (u + n) v (mark_in t (u + n)) 0 (omega arith) ∙ marked_at n v le b room)
      (λ e. rw e (get_or-set_same (marked_from t u row n) (u + n) (mark_in t (u + n)) 0 (omega (arith, marked_length n))))
      (below_suc v (u + n) (omega arith))

-- the ticks from a title's latest event up to tick v
module _ (t : Title) (v : ℕ) (row : List ℕ) where
  pub to_length : length (marked_to t v row) ≡ length row
  unfolding marked_to
  to_length = marked_length t (tick_at t t.last) row (min v (length row) - tick_at t t.last)

  pub to_before : (u : ℕ) → u < tick_at t t.last → get_or (marked_to t v row) u 0 ≡ get_or row u 0
  unfolding marked_to
  to_before u lt = marked_before t (tick_at t t.last) row (min v (length row) - tick_at t t.last) u lt

  pub to_at : (u : ℕ) → tick_at t t.last ≤ u → u < v → u < length row → get_or (marked_to t v row) u 0 ≡ mark_in t u
  unfolding marked_to
  to_at u le lt room =
      marked_at t (tick_at t t.last) row (min v (length row) - tick_at t t.last) u le (omega arith) room
