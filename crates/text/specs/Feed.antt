-- What is left of a block moves to the buffer's front, so that input of any length is read through it.
use Rattle.std.specs.Prelude.{ℕ, ◌-◌, ◌≡◌, List, ◌++◌, length, take, drop, ltb}
use Rattle.rules.specs.Refusals.{pick}

-- how many bytes move: those from `from` up to `to`, none where these are no part of the buffer
unfoldable pub count : List ℕ → ℕ → ℕ → ℕ
count l from to = pick (ltb (length l) to) 0 (to - from)

-- they stand first, and the places behind them keep their bytes
unfoldable pub moved : List ℕ → ℕ → ℕ → List ℕ
moved l from to = take (count l from to) (drop from l) ++ drop (count l from to) l

pub record Moved (l : List ℕ) (from to : ℕ) (l' : List ℕ) (n : ℕ) : Type 0 where
  pub many : n ≡ count l from to
  pub row : l' ≡ moved l from to
