-- Laws of the row after the call for a skip-forward title's plan: its first 2^(k-1) places hold the plan, every block is taken at
-- the number in its place and at no other tick, no later than its turn; its length stays.
-- Rest on the laws of the lent row and of the plan's numbers.
use mathlib.Core.Path.{◌≡◌, ◌∙◌}
use mathlib.Core.Bool.{true}
use mathlib.Core.List.{List}
use Prim.Native.Nat.{ℕ, ◌+◌, ◌-◌, ◌≤◌, ◌<◌}
use native.Mathlib.Omega.{arith}
use lib.ListN.{length, get_or}
use Rattle.rules.specs.Refusals.{done}
use Rattle.scheme.specs.Scheme.{steady, takes}
use Rattle.plans.specs.Forward.{blocks, skip_at, skip_answer}
use Rattle.plans.specs.Row.{skip_row}
use Rattle.plans.proofs.Row.{filled_length, filled_first, filled_later}
use Rattle.plans.proofs.forward.Refusals.{accepted_only}
use Rattle.plans.proofs.forward.Places.{in_time, only}

module _ (k a : ℕ) (row : List ℕ) where
  abbrev answer : ℕ
  answer = skip_answer k a (length row)

  pub row_length_lem : length (skip_row k a row) ≡ length row
  unfolding skip_row
  row_length_lem = filled_length answer (skip_at k a) (blocks k) row

  module _ (accepted : answer ≡ done) where
    count : 0 < k
    count = omega (arith, (accepted_only k a (length row) accepted).within.low)

    -- the first 2^(k-1) places hold the plan
    pub row_first_lem : (c : ℕ) → c < blocks k → get_or (skip_row k a row) c 0 ≡ skip_at k a c
    unfolding skip_row
    row_first_lem c l =
        filled_first answer (skip_at k a) (blocks k) row accepted c (accepted_only k a (length row) accepted).room l

    -- and no later one is touched
    pub row_later : (c : ℕ) → blocks k ≤ c → get_or (skip_row k a row) c 0 ≡ get_or row c 0
    unfolding skip_row
    row_later c l = filled_later answer (skip_at k a) (blocks k) row accepted c l

    -- every block is taken at the number in its place, no later than its turn
    pub row_taken_lem : (c : ℕ) → c < blocks k →
        (takes steady k a c (a + get_or (skip_row k a row) c 0) ≡ true) × (get_or (skip_row k a row) c 0 ≤ c)
    row_taken_lem c l = rw (row_first_lem c l) (in_time k a count c l)

    -- and at no other tick
    pub row_only : (c t : ℕ) → c < blocks k → takes steady k a c t ≡ true → get_or (skip_row k a row) c 0 ≡ t - a
    row_only c t l h = row_first_lem c l ∙ omega (arith, only k a count c t l h)
