-- Bounded searches and counts, by which definitions say "some", "the first", "how many" and "in all".
use Rattle.std.specs.Prelude.{ℕ, zero, suc, ◌+◌, Bool, true, false, ltb}
use Rattle.rules.specs.Limits.{both, either}
use Rattle.rules.specs.Refusals.{pick}

-- the test holds at some number below n
unfoldable pub some : (ℕ → Bool) → ℕ → Bool
some p zero = false
some p (suc n) = either (p n) (some p n)

-- the test holds at every number below n
unfoldable pub every : (ℕ → Bool) → ℕ → Bool
every p zero = true
every p (suc n) = both (p n) (every p n)

-- where the first is f of the numbers below n, the first below n + 1
abbrev pub keep_first : ℕ → ℕ → Bool → ℕ
keep_first f n b = pick (ltb f n) f (pick b n (suc n))

-- the first number below n at which the test holds, or n
unfoldable pub first : (ℕ → Bool) → ℕ → ℕ
first p zero = zero
first p (suc n) = keep_first (first p n) n (p n)

-- how many numbers below n pass the test
unfoldable pub how_many : (ℕ → Bool) → ℕ → ℕ
how_many p zero = zero
how_many p (suc n) = how_many p n + pick (p n) 1 0

-- the number after the last one below n that passes the test, or 0
unfoldable pub after : (ℕ → Bool) → ℕ → ℕ
after p zero = zero
after p (suc n) = pick (p n) (suc n) (after p n)

-- the sum of f over the numbers below n
unfoldable pub total : (ℕ → ℕ) → ℕ → ℕ
total f zero = zero
total f (suc n) = total f n + f n
