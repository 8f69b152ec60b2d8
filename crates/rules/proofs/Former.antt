-- The answers of the release in which one number, 6, stood for four refusals of a count, told from today's: done was
-- done, 13, 14 and 15 were 6, and every other number was itself.
-- Rests on the definition of `first_hit`.
use mathlib.Core.Path.{◌≡◌, refl, sym, ap, ◌∙◌}
use mathlib.Core.Bool.{Bool, true, false, not}
use mathlib.Core.List.{List, [], ◌∷◌}
use mathlib.Core.Logic.{⊎_elim}
use Prim.Native.Nat.{ℕ, ◌≤◌}
use native.Mathlib.Omega.{arith}
use lib.Dec.{leb, ltb, eqb}
use borrow.Author.Tests.{leb-true, leb-false, le-ltb, lt-ltb, ne_eqb}
use Rattle.rules.specs.Limits.{both, either, within}
use Rattle.rules.specs.Refusals.{pick, Rule, refuse, first_hit, done, below_floor, floor_above_cap}
pub use Rattle.rules.specs.Former.{formerly}
use Rattle.rules.proofs.Tests.{decide, both_l}

-- the same calls are done
pub formerly_done : (n : ℕ) → eqb (formerly n) done ≡ eqb n done
formerly_done n =
    ⊎_elim
    (λ x.
    let low : below_floor ≤ n = leb-true below_floor n (both_l (leb below_floor n) (leb n floor_above_cap) x) in
    let some : eqb n done ≡ false = ne_eqb n done (λ e. omega arith) in
    rw (x, some) refl)
    (λ x. rw x refl)
    (decide (within below_floor floor_above_cap n))

-- an order of refusals with the former numbers
unfoldable pub renumbered : List Rule → List Rule
renumbered [] = []
renumbered (r ∷ rs) = refuse (formerly r.number) r.hits ∷ renumbered rs

pub former_hit : (rs : List Rule) → formerly (first_hit rs) ≡ first_hit (renumbered rs)
unfolding first_hit renumbered
former_hit [] = refl
former_hit (r ∷ rs) = go r.hits (former_hit rs)
  where
    go : (b : Bool) → formerly (first_hit rs) ≡ first_hit (renumbered rs)
        → formerly (pick b r.number (first_hit rs)) ≡ pick b (formerly r.number) (first_hit (renumbered rs))
    go true rest = refl
    go false rest = rest

-- neighbours of one number are one rule, which hits where either does
pub joined : (n : ℕ) (a b : Bool) (rs : List Rule)
    → first_hit (refuse n a ∷ refuse n b ∷ rs) ≡ first_hit (refuse n (either a b) ∷ rs)
unfolding first_hit
joined n true b rs = refl
joined n false b rs = refl

-- outside floor..cap is below the floor or above the cap
not_both : (a b : Bool) → not (both a b) ≡ either (not a) (not b)
not_both true b = refl
not_both false b = refl

not_leb : (a b : ℕ) → not (leb a b) ≡ ltb b a
not_leb a b =
    ⊎_elim
    (λ x. ap not x ∙ sym (le-ltb b a (leb-true a b x)))
    (λ x. ap not x ∙ sym (lt-ltb b a (leb-false a b x)))
    (decide (leb a b))

pub outside : (A K k : ℕ) → not (within A K k) ≡ either (ltb k A) (ltb K k)
outside A K k =
    not_both (leb A k) (leb k K)
    ∙ ap (λ b. either b (not (leb k K))) (not_leb A k)
    ∙ ap (either (ltb k A)) (not_leb k K)
