-- A lent row and the place up to which it is written; what has no room is left out.
use Rattle.std.specs.Prelude.{ℕ, ◌+◌, ◌≡◌, List, [], ◌∷◌, length, set, ltb}
use Rattle.rules.specs.Refusals.{pick}

pub record Page : Type 0 where
  pub row : List ℕ
  pub at : ℕ

abbrev pub page : List ℕ → ℕ → Page
page row at = record { row = row; at = at }

-- one byte more, where there is room for it
unfoldable pub put : Page → ℕ → Page
put p b = pick (ltb p.at (length p.row)) (page (set p.row p.at b) (p.at + 1)) p

-- bytes in their order
unfoldable pub puts : Page → List ℕ → Page
puts p [] = p
puts p (b ∷ s) = puts (put p b) s

-- a text was written at a place of a row: so the row is after it, and so far the place behind it
abbrev pub Written : List ℕ → ℕ → List ℕ → List ℕ → ℕ → Type 0
Written before at text after behind = page after behind ≡ puts (page before at) text
