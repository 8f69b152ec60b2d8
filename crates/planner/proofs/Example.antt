-- An evening that meets the hypotheses of the planner's promise, computed from the definitions: two films share a pool of five lanes, three
-- of them with the one that fewer watch. The list drops its third lane, and raises the other film once that lane has sent what it
-- owes; both events come, and the counts are the sharing's.
-- Rests on the promise (`promised`), and on what the earliest time is.
use mathlib.Core.Path.{◌≡◌, refl, ap, subst, ◌∙◌}
use mathlib.Core.Bool.{true}
use mathlib.Core.List.{List, [], ◌∷◌, flat_map}
use Prim.Native.Nat.{ℕ}
use native.Mathlib.Omega.{arith}
use Rattle.rules.specs.Refusals.{done}
use Rattle.rules.specs.Search.{every}
use Rattle.sharing.specs.Titles.{row_total}
use Rattle.sharing.specs.Term.{term}
use Rattle.sharing.specs.Choice.{wait_sum, less_or, at_least, prefers, from, ways, better, best_of, shared}
use Rattle.story.specs.declared.State.{State}
use Rattle.story.specs.Kept.{numbers_ok, order_ok, title_ok, state_ok, tick_at, at_tick_start, settled_at, ruling, wants_from, wants}
use Rattle.story.specs.Kept.{kept_awaited, kept_owed, kept_within, kept_held, title_held, lanes_held, is_there}
use Rattle.story.specs.Next.{drop_lanes, changed_title, change_next}
use Rattle.story.specs.declared.Event.{Event}
use Rattle.story.specs.Story.{opens, event}
use Rattle.story.specs.Calls.{call_answer, status_count}
use Rattle.story.specs.Runs.{state_after}
use Rattle.story.proofs.Computed.{computed}
use Rattle.story.proofs.Demands.{every_run}
use Rattle.sharers.specs.Sharers.{rates_ok, shared_pool, ids_where, sharers, rated, floors_of}
use Rattle.wishes.specs.Wishes.{Wish, share_of, wishes}
use Rattle.moments.specs.Moments.{is_permitted, has_lanes, is_due, earliest}
use Rattle.moments.proofs.Earliest.{found_after}
use Rattle.planner.specs.Moves.{Move, moment_for, listed, all_moved, falls_past}
use Rattle.planner.specs.Outcome.{moves, planner_answer, Standing}
use Rattle.planner.specs.Carried.{Carried, goal_of}
use Rattle.planner.proofs.Passed.{left_answer}
use Rattle.planner.proofs.Promise.{promised}

-- two films of 6 ms with floor 2 and cap 3, so a tick is 1 ms
abbrev calls : List Event
calls = event 1 0 (opens 6 2 3 2) ∷ event 0 0 (opens 6 2 3 3) ∷ []

abbrev evening : State
evening = state_after 5 calls

-- nine watch the second for each that watches the first
abbrev rates : List ℕ
rates = 1 ∷ 9 ∷ 1 ∷ 1 ∷ 1 ∷ 1 ∷ 1 ∷ 1 ∷ 1 ∷ 1 ∷ 1 ∷ 1 ∷ 1 ∷ 1 ∷ 1 ∷ 1 ∷ []

abbrev wish : ℕ → ℕ → Wish
wish i k = record { title = i; count = k }

abbrev move : ℕ → ℕ → ℕ → Move
move i τ k = record { title = i; time = τ; count = k }

-- what computing opens: the state and its answers, when a change is due, and the shares
computed_state : Unit {0}
unfolding state_after call_answer state_ok title_ok numbers_ok order_ok tick_at ruling is_there kept_held title_held lanes_held computed
computed_state = tt

computed_due : Unit {0}
unfolding is_due is_permitted has_lanes at_tick_start settled_at changed_title drop_lanes kept_within kept_owed kept_awaited wants wants_from computed_state
computed_due = tt

computed_choice : Unit {0}
unfolding shared best_of better ways from prefers at_least less_or wait_sum term row_total flat_map
computed_choice = tt

computed_shares : Unit {0}
unfolding wishes ids_where sharers rated floors_of shared_pool share_of computed_choice computed_state
computed_shares = tt

-- a lane of the first is wished away, and one for the second
asked_for : wishes evening rates ≡ wish 0 2 ∷ wish 1 3 ∷ []
unfolding computed_shares
asked_for = refl

-- ---- when each may come

-- from 1 on the drop is permitted at 2, a floor slot after the opening
drop_at : 2 ≡ earliest (is_due evening 0 2) 1
unfolding computed_due
drop_at = found_after (is_due evening 0 2) 1 1 (omega arith) refl refl

abbrev dropped : State
dropped = change_next evening 0 2 2

-- the lane sends the one cell with film that it owes, so the raise waits for 4
raise_at : 4 ≡ earliest (is_due dropped 1 3) 2
unfolding computed_due
raise_at = found_after (is_due dropped 1 3) 2 2 (omega arith) refl refl

-- two wishes listed, once their moments are known
two_listed : (s : State) (τ a b : ℕ) (v w : Wish) → a ≡ moment_for s τ v
    → b ≡ moment_for (change_next s v.title a v.count) a w
    → listed s τ (v ∷ w ∷ []) ≡ move v.title a v.count ∷ move w.title b w.count ∷ []
unfolding listed
two_listed s τ a b v w e f = rw (← e, ← f) refl

pub drop_then_raise : moves evening 1 rates ≡ move 0 2 2 ∷ move 1 4 3 ∷ []
drop_then_raise = ap (listed evening 1) asked_for ∙ two_listed evening 1 2 4 (wish 0 2) (wish 1 3) drop_at raise_at

-- ---- the answer, and what is promised of it

all_ok : state_ok evening ≡ true
unfolding computed_state
all_ok = refl

rates_ok_lem : rates_ok rates ≡ true
unfolding rates_ok every
rates_ok_lem = refl

opened_at_lem : evening.last ≡ 0
unfolding computed_state
opened_at_lem = refl

floors_are : floors_of evening ≡ 4
unfolding computed_shares
floors_are = refl

pool_is : shared_pool evening ≡ 5
unfolding computed_shares
pool_is = refl

standing : Standing evening 1 rates 2
standing =
    record {
      ok = all_ok;
      clock = omega arith;
      rated = rates_ok_lem;
      late = omega (arith, opened_at_lem);
      floors = omega (arith, floors_are, pool_is);
      sixteen = refl;
      places = rw asked_for (omega arith);
    }

pub listed_in_all : planner_answer evening 1 rates 2 ≡ done
unfolding falls_past
listed_in_all = left_answer evening 1 rates 2 standing ∙ rw drop_then_raise refl

pub both_come : Carried evening 1 (move 0 2 2 ∷ move 1 4 3 ∷ []) (all_moved evening 1 (wishes evening rates))
both_come =
    subst (λ (ms : List Move). Carried evening 1 ms (all_moved evening 1 (wishes evening rates))) drop_then_raise
    ((promised 5 _ evening (every_run 5 calls) rates 1 2).carried listed_in_all)

shares_are : (goal_of evening rates 0 ≡ 2) × (goal_of evening rates 1 ≡ 3)
unfolding computed_shares
shares_are = (refl, refl)

pub as_shared : (status_count (all_moved evening 1 (wishes evening rates)) 0 ≡ 2)
    × (status_count (all_moved evening 1 (wishes evening rates)) 1 ≡ 3)
as_shared = (
  (promised 5 _ evening (every_run 5 calls) rates 1 2).brought listed_in_all 0 (omega arith) ∙ shares_are.0,
  (promised 5 _ evening (every_run 5 calls) rates 1 2).brought listed_in_all 1 (omega arith) ∙ shares_are.1,
)
