-- What the planner answers, and what it leaves in the lent rows (02, 11).
use Rattle.std.specs.Prelude.{ℕ, ◌≤◌, min, ◌≡◌, true, not, List, [], ◌∷◌, ◌++◌, map, leb, ltb, eqb, length, drop}
use Rattle.rules.specs.Limits.{both, event_time_max, titles_max}
use Rattle.rules.specs.Refusals.{pick, refuse, first_hit, done, outside_limits, too_early, no_lanes, wrong_rows, past_clock}
use Rattle.story.specs.declared.State.{State}
use Rattle.story.specs.Kept.{state_ok}
use Rattle.sharers.specs.Sharers.{rates_ok, floors_of, shared_pool}
use Rattle.wishes.specs.Wishes.{wishes}
use Rattle.planner.specs.Moves.{Move, listed, falls_past}

-- the changes that bring the pool to its sharing, from τ on
abbrev pub moves : State → ℕ → List ℕ → List Move
moves s τ rates = listed s τ (wishes s rates)

-- the answer, with room for so many events: 1 2 9 10 18
unfoldable pub planner_answer : State → ℕ → List ℕ → ℕ → ℕ
planner_answer s τ rates room =
    first_hit
    (refuse outside_limits (not (both (state_ok s) (both (leb τ event_time_max) (rates_ok rates))))
    ∷ refuse too_early (ltb τ s.last)
    ∷ refuse no_lanes (ltb (shared_pool s) (floors_of s))
    ∷ refuse wrong_rows (not (both (eqb (length rates) titles_max) (leb (length (wishes s rates)) room)))
    ∷ refuse past_clock (falls_past (moves s τ rates))
    ∷ [])

-- none of 1 2 9 10 is answered, with room for so many events
pub record Standing (s : State) (τ : ℕ) (rates : List ℕ) (room : ℕ) : Type 0 where
  pub ok : state_ok s ≡ true
  pub clock : τ ≤ event_time_max
  pub rated : rates_ok rates ≡ true
  pub late : s.last ≤ τ
  pub floors : floors_of s ≤ shared_pool s
  pub sixteen : length rates ≡ titles_max
  pub places : length (wishes s rates) ≤ room

-- what is listed: nothing beside a refusal
unfoldable pub given : State → ℕ → List ℕ → ℕ → List Move
given s τ rates room = pick (eqb (planner_answer s τ rates room) done) (moves s τ rates) []

-- room for a list in three lent rows: what the shortest has
abbrev pub room_of : List ℕ → List ℕ → List ℕ → ℕ
room_of is ts ks = min (length is) (min (length ts) (length ks))

-- a row with one number of each event in its first places; later places stay
abbrev pub row_from : (Move → ℕ) → List Move → List ℕ → List ℕ
row_from f ms row = map f ms ++ drop (length ms) row

-- what the call settles, over rows of rates, ids, times and counts: the answer r, how many events n, and the rows it leaves
pub record Answered (s : State) (τ : ℕ) (rates is ts ks : List ℕ) (r n : ℕ) (is' ts' ks' : List ℕ) : Type 0 where
  pub answer : r ≡ planner_answer s τ rates (room_of is ts ks)
  pub many : n ≡ length (given s τ rates (room_of is ts ks))
  pub ids : is' ≡ row_from (λ m. m.title) (given s τ rates (room_of is ts ks)) is
  pub times : ts' ≡ row_from (λ m. m.time) (given s τ rates (room_of is ts ks)) ts
  pub counts : ks' ≡ row_from (λ m. m.count) (given s τ rates (room_of is ts ks)) ks
