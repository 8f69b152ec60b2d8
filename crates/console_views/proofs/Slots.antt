-- The first time that a search finds is the one that a definition looks for among so many.
-- Rests on the laws of searches.
use mathlib.Core.Path.{◌≡◌, sym, ◌∙◌}
use mathlib.Core.Bool.{Bool, false≢true}
use mathlib.Core.Logic.{⊎_elim}
use Prim.Native.Nat.{ℕ, ◌+◌, ◌-◌, ◌≤◌, ◌<◌}
use native.Mathlib.Omega.{arith}
use lib.Dec.{ltb}
use borrow.Author.Tests.{ltb-true, ltb-false}
use Rattle.rules.specs.Search.{first}
use Rattle.rules.proofs.Tests.{decide}
use Rattle.rules.proofs.Search
use Rattle.moments.specs.Searched.{Found}

pub found_first : (p : ℕ → Bool) (τ n r : ℕ) → Found p τ (τ + n) r → r ≡ τ + first (λ o. p (τ + o)) n
found_first p τ n r f =
    let q : ℕ → Bool = λ o. p (τ + o) in
    let e : τ + (r - τ) ≡ r = omega (arith, f.after) in
    let early : first q n ≤ r - τ = Search.first_least q n (r - τ) (rw e f.hit) in
    let late : r - τ ≤ first q n =
    ⊎_elim
    (λ t.
    let l : first q n < r - τ = ltb-true (first q n) (r - τ) t in
    let m : first q n < n = omega (arith, f.after, f.high) in
    absurd (false≢true (sym (f.none (τ + first q n) (omega arith) (omega arith)) ∙ Search.first_hit_lem q n m)))
    (λ t. ltb-false (first q n) (r - τ) t)
    (decide (ltb (first q n) (r - τ))) in
    omega (arith, f.after)
