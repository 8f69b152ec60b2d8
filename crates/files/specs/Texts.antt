-- Two texts.
use Rattle.std.specs.Prelude.{ℕ, ◌≡◌, Bool, true, false, List}

-- an answer tells whether they are the same
pub record Tells (r : Bool) (a b : List ℕ) : Type 0 where
  pub same : r ≡ true → a ≡ b
  pub other : r ≡ false → a ≡ b → ⊥
