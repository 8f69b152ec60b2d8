-- Laws of the row after the plan call: its first 2^K places hold the plan, every cell but the last w is taken at the number in its
-- place and at no other tick, no later than its turn, and the last w never; a refusal writes nothing.
-- Rest on the laws of the lent row and of the plan's numbers.
use mathlib.Core.Path.{◌≡◌, ◌∙◌}
use mathlib.Core.Bool.{true}
use mathlib.Core.List.{List}
use Prim.Native.Nat.{ℕ, ◌+◌, ◌-◌, ◌≤◌, ◌<◌}
use native.Mathlib.Omega.{arith}
use lib.ListN.{length, get_or}
use Rattle.rules.specs.Refusals.{done}
use Rattle.grid.specs.Ticks.{cells, slot}
use Rattle.scheme.specs.Scheme.{padded, takes}
use Rattle.plans.specs.Padded.{plan_at, plan_answer, never}
use Rattle.plans.specs.Row.{written, plan_row}
use Rattle.plans.proofs.Row.{filled_refused, filled_done, filled_first, filled_later}
use Rattle.plans.proofs.padded.Refusals.{accepted_only}
use Rattle.plans.proofs.padded.Places.{plan_in_lem, plan_only, plan_never}

module _ (A K k a : ℕ) (row : List ℕ) where
  abbrev answer : ℕ
  answer = plan_answer A K k a (length row)

  pub row_done : answer ≡ done → plan_row A K k a row ≡ written (plan_at A K k a) row (cells K)
  unfolding plan_row
  row_done e = filled_done answer (plan_at A K k a) (cells K) row e

  -- a refusal writes nothing
  pub row_refused : (answer ≡ done → ⊥) → plan_row A K k a row ≡ row
  unfolding plan_row
  row_refused h = filled_refused answer (plan_at A K k a) (cells K) row h

  module _ (accepted : answer ≡ done) where
    -- the first 2^K places hold the plan
    pub row_first_lem : (c : ℕ) → c < cells K → get_or (plan_row A K k a row) c 0 ≡ plan_at A K k a c
    unfolding plan_row
    row_first_lem c l =
        filled_first answer (plan_at A K k a) (cells K) row accepted c (accepted_only A K k a (length row) accepted).room l

    -- and no later one is touched
    pub row_later : (c : ℕ) → cells K ≤ c → get_or (plan_row A K k a row) c 0 ≡ get_or row c 0
    unfolding plan_row
    row_later c l = filled_later answer (plan_at A K k a) (cells K) row accepted c l

    -- every cell but the last w is taken at the number in its place, no later than its turn
    pub row_taken_lem : (c : ℕ) → c < cells K - slot K k →
        (takes (padded A K) k a c (a + get_or (plan_row A K k a row) c 0) ≡ true) × (get_or (plan_row A K k a row) c 0 ≤ c)
    row_taken_lem c l =
        let t = accepted_only A K k a (length row) accepted in
        rw (row_first_lem c (omega arith)) (plan_in_lem A K k a c t.count.fit t.start l)

    -- and at no other tick
    pub row_only : (c t : ℕ) → c < cells K → takes (padded A K) k a c t ≡ true → get_or (plan_row A K k a row) c 0 ≡ t - a
    row_only c t l h =
        let u = accepted_only A K k a (length row) accepted in
        row_first_lem c l ∙ plan_only A K k a c u.count.fit u.start t h

    -- the last w are never taken
    pub row_never : (c : ℕ) → cells K - slot K k ≤ c → c < cells K → get_or (plan_row A K k a row) c 0 ≡ never
    row_never c l h =
        let t = accepted_only A K k a (length row) accepted in
        row_first_lem c h ∙ plan_never A K k a c t.count.fit t.start l
