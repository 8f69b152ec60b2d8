-- In every state that accepted events reach, each change of the answer can be entered as it is printed: the planner promises that it is
-- accepted in its turn, so that its numbers are within the product's limits, which the reader's exceed.
-- Rests on the planner's promise and on the reading of a printed change.
use Prim.Native.Nat.{ℕ, zero, suc, ◌≤◌, ◌<◌}
use mathlib.Core.Path.{◌≡◌, refl}
use mathlib.Core.Bool.{Bool, true, false}
use mathlib.Core.List.{List}
use native.Mathlib.Omega.{arith}
use borrow.Author.Tests.{leb-true, not-false, eq-eqb}
use lib.ListN.{length, get_or}
use Rattle.rules.specs.Limits.{both, within, id_max, count_min, count_max, titles_max}
use Rattle.rules.specs.Refusals.{pick, hits_of, numbered, done, outside_limits}
use Rattle.rules.proofs.Tests.{both_l, both_r}
use Rattle.rules.proofs.Refusals.{cleared}
use Rattle.story.specs.declared.Act.TheVariants.{Changes}
use Rattle.story.specs.declared.State.{State}
use Rattle.story.specs.declared.Event.{Event}
use Rattle.story.specs.Orders.{change_order}
use Rattle.story.specs.Calls.{event_ok, tests_in, call_answer}
use Rattle.story.specs.Runs.{Reached}
use Rattle.planner.specs.Moves.{Move}
use Rattle.planner.specs.Outcome.{planner_answer, given}
use Rattle.planner.specs.Carried.{Comes, Carried, all_came, next_comes}
use Rattle.planner.proofs.Promise.{promised}
use Rattle.console_balance.specs.Rates.{pairs_in, rates_by}
use Rattle.console_balance.specs.Balance.{no_move, pairs_ok, balance_answer, balance_moves}
use Rattle.console_balance.specs.Entered.{Spelt, Enters}
use Rattle.console_balance.proofs.Entering.{entered}

-- a change that is accepted has its numbers within their limits
spelt : (s : State) (τ : ℕ) (m : Move) → Comes s τ m → Spelt m
unfolding call_answer hits_of numbered
spelt s τ m h =
    let ok : both (event_ok s m.title m.time) (within count_min count_max m.count) ≡ true =
    not-false _ (cleared (change_order (tests_in s m.title m.time (Changes m.count))) refl h.accepted outside_limits) in
    let id : m.title ≤ id_max = search (both_l, both_r, leb-true) depth 12 in
    let few : m.count ≤ count_max = search (both_l, both_r, leb-true) depth 12 in
    record { title = omega arith; time = omega (arith, h.in_clock); count = omega arith }

-- so it is with every change of a list that comes
all_spelt : (s z : State) (τ : ℕ) (ms : List Move) → Carried s τ ms z → (j : ℕ) → j < length ms → Spelt (get_or ms j no_move)
all_spelt s z τ ms all_came j h = absurd (omega arith)
all_spelt s z τ ms (next_comes {m = m} {ms = more} c rest) zero h = spelt s τ m c
all_spelt s z τ ms (next_comes {m = m} {ms = more} c rest) (suc j) h = all_spelt _ z m.time more rest j (omega arith)

-- an answer 0 is the planner's
planned : (b : Bool) (n : ℕ) → pick b n outside_limits ≡ done → n ≡ done
planned true n e = e
planned false n e = absurd (omega arith)

pub balanced : (pool : ℕ) (es : List Event) (s : State) → Reached pool es s → (numbers : List ℕ) (count : ℕ) →
    balance_answer s numbers count ≡ done → (j : ℕ) → j < length (balance_moves s numbers count) →
    Enters (get_or (balance_moves s numbers count) j no_move)
unfolding balance_answer given
balanced pool es s run numbers count none j h =
    let τ : ℕ = get_or numbers 0 0 in
    let rates : List ℕ = rates_by numbers (pairs_in count) in
    let is : planner_answer s τ rates titles_max ≡ done = planned (pairs_ok numbers count) (planner_answer s τ rates titles_max) none in
    let l = rw (eq-eqb _ _ is) at h in
    rw (eq-eqb _ _ is) (entered _ (all_spelt s _ τ _ ((promised pool es s run rates τ titles_max).carried is) j l))
