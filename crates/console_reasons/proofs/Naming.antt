-- What 1 says is so of fresh, of a lane question and of status; of events in proofs/Spelling. Rests on `console_limits` proofs/Naming and on the
-- laws of an answer by listed refusals.
use Prim.Native.Nat.{ℕ, suc, ◌+◌, ◌-◌, ◌%◌, ◌<◌, ◌≤◌}
use mathlib.Core.Path.{◌≡◌, refl}
use mathlib.Core.Bool.{true, not}
use mathlib.Core.List.{List, [], ◌∷◌}
use native.Mathlib.Omega.{arith}
use native.Mathlib.Nat.{mod-lt}
use borrow.Author.Tests.{le-ltb}
use lib.Dec.{leb}
use lib.ListN.{length, get_or}
use Rattle.rules.specs.Limits.{both, within, pool_min, pool_max, id_max, lane_max, asked_max}
use Rattle.rules.specs.Refusals.{outside_limits, refuse}
use Rattle.rules.specs.Search.{every}
use Rattle.rules.proofs.Tests.{both_r, both_in}
use Rattle.rules.proofs.Search.{every_in}
use Rattle.rules.proofs.Refusals as refusals
use Rattle.rules.proofs.Refusals.{hits_of, distinct, is_listed}
use Rattle.story.specs.declared.State.{State}
use Rattle.story.specs.Kept.{state_ok}
use Rattle.story.specs.Calls.{fresh_answer, lane_rules, lane_answer, status_rules, status_answer}
use Rattle.console_commands.specs.Commands.{do_fresh, do_lane, do_status}
use Rattle.console_limits.specs.Quantities.{bounds_of, bounds_table, of_id, repeated, quantity_at, column_of, row_of, quantity_table}
use Rattle.console_limits.specs.Outside.{first_out, SaysOut}
use Rattle.console_limits.proofs.Naming.{within_all, by_limits}

-- of a fresh pool, where a number is always named: no state is asked
pub fresh_out : (n : ℕ) → fresh_answer n ≡ outside_limits → SaysOut true do_fresh (n ∷ [])
unfolding hits_of distinct is_listed quantity_at column_of row_of quantity_table bounds_of bounds_table
fresh_out n h =
    by_limits do_fresh (n ∷ []) true (within pool_min pool_max n)
    (refusals.first_hit_lem (refuse outside_limits (not (within pool_min pool_max n)) ∷ []) refl outside_limits (omega arith) h).0
    (λ none. within_all do_fresh (n ∷ []) none 0 (omega arith))

-- of a lane question
pub lane_out : (s : State) (i l τ : ℕ) → lane_answer s i l τ ≡ outside_limits → SaysOut (state_ok s) do_lane (i ∷ l ∷ τ ∷ [])
unfolding lane_answer hits_of distinct is_listed quantity_at column_of row_of quantity_table bounds_of bounds_table
lane_out s i l τ h =
    by_limits do_lane (i ∷ l ∷ τ ∷ []) (state_ok s) (both (leb i id_max) (both (leb l lane_max) (leb τ asked_max)))
    (refusals.first_hit_lem (lane_rules s i l τ) refl outside_limits (omega arith) h).0
    (λ none.
    let inside = within_all do_lane (i ∷ l ∷ τ ∷ []) none in
    both_in _ _ (both_r (leb 0 i) (leb i id_max) (inside 0 (omega arith)))
    (both_in _ _ (both_r (leb 0 l) (leb l lane_max) (inside 1 (omega arith)))
    (both_r (leb 0 τ) (leb τ asked_max) (inside 2 (omega arith)))))

-- every number behind the time of a status is an id
status_id : (j : ℕ) → quantity_at do_status (suc j) ≡ of_id
unfolding quantity_at column_of repeated row_of quantity_table
status_id j =
    let some : 0 < 1 = omega arith in
    let none : (suc j - 1) % 1 < 1 = mod-lt (suc j - 1) some in
    let one : 1 + (suc j - 1) % 1 ≡ 1 = omega arith in
    let past : 1 ≤ suc j = omega arith in
    rw (le-ltb (suc j) 1 past, one) refl

-- and the time and the ids are within their limits where no number is named
module _ (τ : ℕ) (ids : List ℕ) (none : length (τ ∷ ids) ≤ first_out do_status (τ ∷ ids)) where
  status_time : leb τ asked_max ≡ true
  unfolding quantity_at column_of repeated row_of quantity_table bounds_of bounds_table
  status_time = both_r (leb 0 τ) (leb τ asked_max) (within_all do_status (τ ∷ ids) none 0 (omega arith))

  status_ids : (j : ℕ) → j < length ids → leb (get_or ids j 0) id_max ≡ true
  unfolding bounds_of bounds_table
  status_ids j l =
      both_r (leb 0 (get_or ids j 0)) (leb (get_or ids j 0) id_max)
      (rw (status_id j) at (within_all do_status (τ ∷ ids) none (suc j) (omega arith)))

-- of status
pub status_out : (s : State) (τ : ℕ) (ids : List ℕ) (m h d : ℕ) → status_answer s τ ids m h d ≡ outside_limits
    → SaysOut (state_ok s) do_status (τ ∷ ids)
unfolding status_answer hits_of distinct is_listed
status_out s τ ids m h d e =
    by_limits do_status (τ ∷ ids) (state_ok s) (both (leb τ asked_max) (every (λ j. leb (get_or ids j 0) id_max) (length ids)))
    (refusals.first_hit_lem (status_rules s τ ids m h d) refl outside_limits (omega arith) e).0
    (λ none.
    both_in _ _ (status_time τ ids none)
    (every_in (λ j. leb (get_or ids j 0) id_max) (length ids) (status_ids τ ids none)))
