-- Laws of numbers written into a row from a place on: one more, the length, two pieces as one, and the pieces of a plan as the whole of it.
-- Rest on the laws of stores into a list.
use mathlib.Core.Path.{◌≡◌, refl, sym, ap, ◌∙◌}
use mathlib.Core.List.{List}
use Prim.Native.Nat.{ℕ, zero, suc, ◌+◌, ◌<◌, ◌≤◌}
use native.Mathlib.Omega.{arith}
use native.Mathlib.Nat.{add-zero}
use native.Mathlib.Numerals.{add-one}
use lib.ListN.{length, set, length-set}
use Rattle.std.proofs.Common.{replicate, take, drop, ◌++◌, []}
use Rattle.std.proofs.lemmas.List.{length-replicate}
use lib.Seq.{paste}
use Rattle.std.proofs.lemmas.List.Edits.{fill_from_more, paste_none, paste_all}
use Rattle.plans.specs.Row.{written}
use Rattle.plans.specs.inner.Rows.{written_from}

module _ (f : ℕ → ℕ) (row : List ℕ) (from : ℕ) where
  -- one place more
  pub from_next : (r : List ℕ) (n v : ℕ) → r ≡ written_from f row from n → v ≡ f (from + n) →
      set r (from + n) v ≡ written_from f row from (n + 1)
  unfolding written_from
  from_next r n v p q = rw (add-one n, p, q) refl

  pub from_none : row ≡ written_from f row from 0
  unfolding written_from
  from_none = refl

  pub from_length : (n : ℕ) → length (written_from f row from n) ≡ length row
  unfolding written_from
  from_length zero = refl
  from_length (suc n) = length-set (written_from f row from n) (from + n) (f (from + n)) ∙ from_length n

  -- only what is written matters
  pub from_same : (g : ℕ → ℕ) (n : ℕ) → ((i : ℕ) → i < n → f (from + i) ≡ g (from + i)) →
      written_from f row from n ≡ written_from g row from n
  unfolding written_from
  from_same g zero h = refl
  from_same g (suc n) h = rw (from_same g n (λ i l. h i (omega arith)), h n (omega arith)) refl

  -- a second piece behind the first
  pub from_join : (a b : ℕ) → written_from f (written_from f row from a) (from + a) b ≡ written_from f row from (a + b)
  unfolding written_from
  from_join a zero = ap (written_from f row from) (sym (add-zero a))
  from_join a (suc b) =
      let e : from + a + b ≡ from + (a + b) = omega arith in
      let s : a + suc b ≡ suc (a + b) = omega arith in
      rw (s, from_join a b, e) refl

-- what is written from the first place on
pub from_first : (f : ℕ → ℕ) (row : List ℕ) (n : ℕ) → written_from f row 0 n ≡ written f row n
unfolding written_from written
from_first f row zero = refl
from_first f row (suc n) = let e : 0 + n ≡ n = omega arith in rw (e, from_first f row n) refl

-- places that are filled with one number are written one by one
filled_next : (v : ℕ) (row : List ℕ) (from many : ℕ) → from + many ≤ length row →
    paste row from (replicate many v) many ≡ written_from (λ _. v) row from many
unfolding written_from
filled_next v row from zero h = sym (paste_none row from [])
filled_next v row from (suc n) h =
    let e : n + 1 ≡ suc n = add-one n in
    sym (rw e at (fill_from_more row from n v (omega arith))) ∙ ap (λ r. set r (from + n) v) (filled_next v row from n (omega arith))

pub filled_is : (v : ℕ) (row : List ℕ) (from many : ℕ) → from + many ≤ length row →
    take from row ++ (replicate many v ++ drop (from + many) row) ≡ written_from (λ _. v) row from many
filled_is v row from many h =
    sym (paste_all row from (replicate many v) many (sym (length-replicate many v))) ∙ filled_next v row from many h
