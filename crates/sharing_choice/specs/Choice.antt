-- Which counts the sharing chooses (01, "Sharing"), as a statement and as a search over all choices.
use Rattle.std.specs.Prelude.{◌≡◌, Bool, true, ℕ, zero, suc, ◌+◌, ◌-◌, ◌≤◌, ◌<◌, leb, ltb, eqb, length, get_or}
use mathlib.Core.List.{List, [], ◌∷◌, map, flat_map}
use Rattle.rules.specs.Limits.{both, either}
use Rattle.rules.specs.Refusals.{pick}
use Rattle.sharing_titles.specs.declared.titles.Rated.{Rated}
use Rattle.sharing_titles.specs.Titles.{rated_title, row_total}
use Rattle.sharing_titles.specs.Term.{term}

-- the sum that is to be least (01, "Sharing"), over all titles, one count to a title
unfoldable pub wait_sum : List Rated → List ℕ → ℕ
wait_sum [] ks = 0
wait_sum (t ∷ ts) [] = 0
wait_sum (t ∷ ts) (k ∷ ks) = term t k + wait_sum ts ks

-- a is less than b, or they are equal and r holds
unfoldable pub less_or : ℕ → ℕ → Bool → Bool
less_or a b r = either (ltb a b) (both (eqb a b) r)

-- at the first title where two choices differ, the first choice has more; or they are the same
unfoldable pub at_least : List ℕ → List ℕ → Bool
at_least [] ys = true
at_least (x ∷ xs) [] = true
at_least (x ∷ xs) (y ∷ ys) = less_or y x (at_least xs ys)

-- the first choice is to be taken rather than the second, or is the second: a lesser sum, or among equals more for
-- earlier titles
unfoldable pub prefers : List Rated → List ℕ → List ℕ → Bool
prefers ts x y = less_or (wait_sum ts x) (wait_sum ts y) (at_least x y)

-- a count for each title, from its floor to its cap
pub record Way (ts : List Rated) (x : List ℕ) : Type 0 where
  pub places : length x ≡ length ts
  pub low : (i : ℕ) → i < length ts → (rated_title ts i).floor ≤ get_or x i 0
  pub high : (i : ℕ) → i < length ts → get_or x i 0 ≤ (rated_title ts i).cap

-- a choice (01, "Sharing"): counts within floors and caps, their total at most the pool
pub record Choice (pool : ℕ) (ts : List Rated) (x : List ℕ) : Type 0 where
  pub way : Way ts x
  pub room : row_total x ≤ pool

-- the choice that the sharing takes (01, "Sharing"): it is to be preferred to every choice
pub record Shared (pool : ℕ) (ts : List Rated) (x : List ℕ) : Type 0 where
  pub choice : Choice pool ts x
  pub best : (y : List ℕ) → Choice pool ts y → prefers ts x y ≡ true

-- n numbers from lo on
unfoldable pub from : ℕ → ℕ → List ℕ
from lo zero = []
from lo (suc n) = lo ∷ from (suc lo) n

-- all ways to give each title a count from its floor to its cap
unfoldable pub ways : List Rated → List (List ℕ)
ways [] = [] ∷ []
ways (t ∷ ts) = flat_map (λ k. map (λ x. k ∷ x) (ways ts)) (from t.floor (suc t.cap - t.floor))

-- the one of two to be preferred, where the second's total is at most the pool
unfoldable pub better : ℕ → List Rated → List ℕ → List ℕ → List ℕ
better pool ts x y = pick (both (leb (row_total y) pool) (prefers ts y x)) y x

-- the one to be preferred among x and a list
unfoldable pub best_of : ℕ → List Rated → List ℕ → List (List ℕ) → List ℕ
best_of pool ts x [] = x
best_of pool ts x (y ∷ ys) = best_of pool ts (better pool ts x y) ys

-- the counts that the sharing gives where the floors fit the pool: the best of the floors and of all ways. It is the
-- one `Shared` choice (proofs/Promise: `is_shared`, `only_shared`), found by trying all
unfoldable pub shared : ℕ → List Rated → List ℕ
shared pool ts = best_of pool ts (map (λ t. t.floor) ts) (ways ts)
