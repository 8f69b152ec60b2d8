-- The orders of refusals before 02's request 4, with one number for a wrong count: what was accepted by them is held against today's.
use Rattle.std.specs.Prelude.{Bool, false, not, List, [], ◌∷◌, ℕ, ltb, eqb}
use Rattle.rules.specs.Limits.{either, within}
use Rattle.rules.specs.Refusals.{pick, Rule, refuse, first_hit, done, outside_limits, too_early, not_there, id_taken}
use Rattle.rules.specs.Refusals.{is_closing, is_steady, second_event, too_soon, not_at_slot, no_lanes}
use Rattle.story.specs.declared.State.{State}
use Rattle.story.specs.Orders.{Tests, close_order, doors_order}
use Rattle.story.specs.declared.Act.{Act}
use Rattle.story.specs.declared.Act.TheVariants.{Opens, Changes, Closes, Doors}
use Rattle.story.specs.declared.Event.{Event}
use Rattle.story.specs.Kept.{title_at}
use Rattle.story.specs.Next.{call_next}
use Rattle.story.specs.Calls.{tests_in, fresh_next}

-- 6 as it was: count outside floor..cap, floor above cap, or count unchanged
abbrev pub wrong_count : ℕ
wrong_count = 6

abbrev pub count_wrong : Act → ℕ → ℕ → ℕ → Bool
count_wrong (Opens f k) _ _ _ = either (ltb f.cap f.floor) (not (within f.floor f.cap k))
count_wrong (Changes n) A K k = either (not (within A K n)) (eqb n k)
count_wrong Closes A K k = false
count_wrong (Doors b) A K k = false

-- the orders as they stood, 1 2 4 6 9 and 1 2 3 5 6 7 8 9, of a count that is wrong or not; 16 and 19, which came later,
-- have their places
abbrev pub former_open : Tests → Bool → List Rule
former_open t wrong =
    refuse outside_limits t.outside
    ∷ refuse too_early t.early
    ∷ refuse id_taken t.there
    ∷ refuse wrong_count wrong
    ∷ refuse no_lanes t.full
    ∷ []

abbrev pub former_change : Tests → Bool → List Rule
former_change t wrong =
    refuse outside_limits t.outside
    ∷ refuse too_early t.early
    ∷ refuse not_there (not t.there)
    ∷ refuse is_closing t.closing
    ∷ refuse is_steady t.steady
    ∷ refuse wrong_count wrong
    ∷ refuse second_event t.second
    ∷ refuse too_soon t.soon
    ∷ refuse not_at_slot t.off
    ∷ refuse no_lanes t.full
    ∷ []

abbrev pub former_order : Act → Tests → Bool → List Rule
former_order (Opens f k) = former_open
former_order (Changes k) = former_change
former_order Closes = λ t wrong. close_order t
former_order (Doors b) = λ t wrong. doors_order t

-- what a call answered
unfoldable pub former_answer : State → ℕ → ℕ → Act → ℕ
former_answer s i τ a =
    first_hit
    (former_order a (tests_in s i τ a) (count_wrong a (title_at s i).film.floor (title_at s i).film.cap (title_at s i).count))

-- the state that a call left, and that any run of them left
abbrev pub former_called : State → Event → State
former_called s e =
    pick (eqb (former_answer s e.title e.time e.act) done) (call_next s e.title e.time e.act) s

unfoldable pub former_state : ℕ → List Event → State
former_state pool [] = fresh_next pool
former_state pool (c ∷ cs) = former_called (former_state pool cs) c
