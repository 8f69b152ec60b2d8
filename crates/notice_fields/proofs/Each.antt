-- Going by cases: the order of two numbers, each number below a bound, and no case at all.
use mathlib.Core.Path.{◌≡◌, refl, sym, ◌∙◌}
use mathlib.Core.Bool.{Bool, true, false}
use Prim.Native.Nat.{ℕ, zero, suc, ◌≤◌, ◌<◌}
use native.Mathlib.Omega.{arith}
use lib.Dec.{ltb, leb}
use borrow.Author.Tests.{ltb-true, ltb-false, le-leb, lt-leb}

-- one of two numbers is the greater
pub by_order : {P : Type 0} (a b : ℕ) → (a < b → P) → (b ≤ a → P) → P
by_order {P} a b f g = go (ltb a b) refl
  where
    go : (t : Bool) → ltb a b ≡ t → P
    go true e = f (ltb-true a b e)
    go false e = g (ltb-false a b e)

-- two pairs of numbers in one order pass one test
pub same_order : (a b c d : ℕ) → (a ≤ b → c ≤ d) → (b < a → d < c) → leb a b ≡ leb c d
same_order a b c d f g =
    by_order b a (λ lt. lt-leb a b lt ∙ sym (lt-leb c d (g lt))) (λ le. le-leb a b le ∙ sym (le-leb c d (f le)))

-- a fact of each number below a bound, listed, is a fact of every one
abbrev pub Each : (ℕ → Type 0) → ℕ → Type 0
Each P zero = Unit {0}
Each P (suc m) = Each P m × P m

pub each : (P : ℕ → Type 0) (m : ℕ) → Each P m → (i : ℕ) → i < m → P i
each P zero all i h = absurd (omega arith)
each P (suc m) all i h =
    by_order i m (λ lt. each P m all.0 i lt) (λ le. let e : m ≡ i = omega arith in rw (sym e) all.1)

pub false_true : {A : Type 0} → false ≡ true → A
false_true e = absurd (let z : ◌≡◌ {A = ℕ} 0 1 = cc in omega arith)
