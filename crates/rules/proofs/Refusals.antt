-- Laws of an answer by listed refusals, each read by its number: an answer 0 clears every rule of the list; an answer n
-- means that the rule of number n hits and that none before it does; two lists agree as far as they are read.
-- Rest on the definition of `first_hit`.
use mathlib.Core.Path.{◌≡◌, refl, sym, ◌∙◌}
use mathlib.Core.Bool.{Bool, true, false, not, false≢true}
use mathlib.Core.Logic.{⊎_elim}
use mathlib.Core.List.{List, [], ◌∷◌, ◌++◌}
use Prim.Native.Nat.{ℕ, ◌<◌}
use native.Mathlib.Omega.{arith}
use lib.Dec.{ltb, eqb}
use borrow.Author.Tests.{ltb-true, eq-eqb, ne_eqb, eqb-true, eqb-false, not-true}
use Rattle.rules.specs.Refusals.{pick, Rule, refuse, first_hit, before, behind}
unfoldable pub use Rattle.rules.specs.Refusals.{hits_of, numbered, is_listed, distinct}
use Rattle.rules.proofs.Tests.{decide, both_l, both_r}

-- what stands at the head of a list that is numbered
positive : (r : Rule) (rs : List Rule) → numbered (r ∷ rs) ≡ true → 0 < r.number
unfolding numbered
positive r rs n = ltb-true 0 r.number (both_l (ltb 0 r.number) (numbered rs) n)

numbered_rest : (r : Rule) (rs : List Rule) → numbered (r ∷ rs) ≡ true → numbered rs ≡ true
unfolding numbered
numbered_rest r rs n = both_r (ltb 0 r.number) (numbered rs) n

head_clear : (k : ℕ) (b : Bool) (rest : ℕ) → 0 < k → pick b k rest ≡ 0 → (b ≡ false) × (rest ≡ 0)
head_clear k true rest p h = absurd (omega arith)
head_clear k false rest p h = (refl, h)

-- an answer 0 clears every rule
pub cleared : (rs : List Rule) → numbered rs ≡ true → first_hit rs ≡ 0 → (n : ℕ) → hits_of n rs ≡ false
unfolding first_hit hits_of
cleared [] c h n = refl
cleared (r ∷ rs) c h n =
    let head = head_clear r.number r.hits (first_hit rs) (positive r rs c) h in
    let rest : hits_of n rs ≡ false = cleared rs (numbered_rest r rs c) head.1 n in
    ⊎_elim (λ x. rw x head.0) (λ x. rw x rest) (decide (eqb r.number n))

-- and every part of the list behind a rule
pub behind_clear : (n : ℕ) (rs : List Rule) → numbered rs ≡ true → first_hit rs ≡ 0 → first_hit (behind n rs) ≡ 0
unfolding first_hit
behind_clear n [] c h = refl
behind_clear n (r ∷ rs) c h =
    let rest : first_hit rs ≡ 0 = (head_clear r.number r.hits (first_hit rs) (positive r rs c) h).1 in
    ⊎_elim (λ x. rw x rest) (λ x. rw x (behind_clear n rs (numbered_rest r rs c) rest)) (decide (eqb r.number n))

-- an answer that is no 0 stands in the list
listed : (rs : List Rule) (n : ℕ) → 0 < n → first_hit rs ≡ n → is_listed n rs ≡ true
unfolding first_hit is_listed
listed [] n p h = absurd (omega arith)
listed (r ∷ rs) n p h =
    ⊎_elim (λ x. rw x refl)
    (λ x.
    ⊎_elim (λ y. absurd (eqb-false r.number n x (rw y at h))) (λ y. rw x (listed rs n p (rw y at h)))
    (decide r.hits))
    (decide (eqb r.number n))

-- an answer n that is no 0 means that the rule of number n hits, and none before it
pub first_hit_lem : (rs : List Rule) → distinct rs ≡ true → (n : ℕ) → 0 < n → first_hit rs ≡ n →
    (hits_of n rs ≡ true) × (first_hit (before n rs) ≡ 0)
unfolding first_hit hits_of distinct
first_hit_lem [] d n p h = absurd (omega arith)
first_hit_lem (r ∷ rs) d n p h =
    let alone : not (is_listed r.number rs) ≡ true = both_l (not (is_listed r.number rs)) (distinct rs) d in
    let rest : distinct rs ≡ true = both_r (not (is_listed r.number rs)) (distinct rs) d in
    ⊎_elim
    (λ x.
    let e : r.number ≡ n = eqb-true r.number n x in
    ⊎_elim (λ y. rw x (y, refl))
    (λ y.
    let again : is_listed r.number rs ≡ true = rw (← e) at (listed rs n p (rw y at h)) in
    absurd (false≢true (sym (not-true (is_listed r.number rs) alone) ∙ again)))
    (decide r.hits))
    (λ x.
    ⊎_elim (λ y. absurd (eqb-false r.number n x (rw y at h)))
    (λ y. let q = first_hit_lem rs rest n p (rw y at h) in rw x (q.0, rw y q.1))
    (decide r.hits))
    (decide (eqb r.number n))

-- the same test at the head of two lists, and the same answer behind it where it passes
pub hit_same : (n : ℕ) (a b : Bool) (rs qs : List Rule) → a ≡ b → (a ≡ false → first_hit rs ≡ first_hit qs) →
    first_hit (refuse n a ∷ rs) ≡ first_hit (refuse n b ∷ qs)
unfolding first_hit
hit_same n true b rs qs e f = rw (← e) refl
hit_same n false b rs qs e f = rw (← e) (f refl)

-- a list in two parts: the second answers where the first has no rule that hits
pub hit_append : (xs ys : List Rule) → numbered xs ≡ true →
    first_hit (xs ++ ys) ≡ pick (eqb (first_hit xs) 0) (first_hit ys) (first_hit xs)
unfolding first_hit
hit_append [] ys c = refl
hit_append (r ∷ rs) ys c = go r.hits (hit_append rs ys (numbered_rest r rs c))
  where
    some : eqb r.number 0 ≡ false
    some = ne_eqb r.number 0 (λ e. omega (arith, positive r rs c))

    go : (b : Bool) → first_hit (rs ++ ys) ≡ pick (eqb (first_hit rs) 0) (first_hit ys) (first_hit rs) →
        pick b r.number (first_hit (rs ++ ys))
        ≡ pick (eqb (pick b r.number (first_hit rs)) 0) (first_hit ys) (pick b r.number (first_hit rs))
    go true rest = rw some refl
    go false rest = rest

-- so where no rule hits, none of the first part does
pub none_first : (xs ys : List Rule) → numbered xs ≡ true → first_hit (xs ++ ys) ≡ 0 → first_hit xs ≡ 0
none_first xs ys c none =
    ⊎_elim (λ t. eqb-true (first_hit xs) 0 t) (λ f. sym (rw f at (hit_append xs ys c)) ∙ none)
    (decide (eqb (first_hit xs) 0))

-- two parts, the first of which is known: it answers where it has a rule that hits, else the second does
module _ (xs ys : List Rule) (first : ℕ) (counts : numbered xs ≡ true) (is_first : first ≡ first_hit xs) where
  pub in_two : first_hit (xs ++ ys) ≡ pick (eqb first 0) (first_hit ys) first
  in_two = rw is_first (hit_append xs ys counts)

  pub then_late : (late : ℕ) → first ≡ 0 → late ≡ first_hit ys → late ≡ first_hit (xs ++ ys)
  then_late late none is-late = is-late ∙ sym (rw (eq-eqb first 0 none) at in_two)

  pub then_first : (first ≡ 0 → ⊥) → first ≡ first_hit (xs ++ ys)
  then_first some = sym (rw (ne_eqb first 0 some) at in_two)
