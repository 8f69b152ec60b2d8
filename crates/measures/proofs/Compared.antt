-- A difference compared is a sum compared. Rests on the laws of tests.
use mathlib.Core.Path.{◌≡◌}
use Prim.Native.Nat.{ℕ, ◌+◌, ◌-◌, ◌≤◌}
use native.Mathlib.Omega.{arith}
use lib.Dec.{ltb}
use borrow.Author.Tests.{lt-ltb, ltb-true}
use Rattle.rules.proofs.Tests.{same}

pub sub_ltb : (x a b : ℕ) → a ≤ x → ltb (x - a) b ≡ ltb x (a + b)
sub_ltb x a b l =
    same (ltb (x - a) b) (ltb x (a + b)) (λ t. lt-ltb x (a + b) (omega (arith, ltb-true (x - a) b t)))
    (λ t. lt-ltb (x - a) b (omega (arith, ltb-true x (a + b) t)))
