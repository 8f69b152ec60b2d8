-- What the parts of the code promise to each other on the way to the list. The public call's contract cites none of this.
use Rattle.std.specs.Prelude.{ℕ, zero, suc, ◌≤◌, ◌<◌, ◌≡◌, Bool, not, List, [], ◌∷◌, ◌++◌, map, leb, ltb, get_or}
use Rattle.rules.specs.Limits.{both, id_max, event_time_max}
use Rattle.rules.specs.Refusals.{Rule, refuse, first_hit, outside_limits, too_early, no_lanes}
use Rattle.story.specs.declared.State.{State}
use Rattle.story.specs.Kept.{open_mode, title_at, state_ok}
use Rattle.wishes.specs.declared.Wishes.{Wishes}
use Rattle.sharers.specs.Sharers.{rates_ok, floors_of, shared_pool}
use Rattle.wishes.specs.Wishes.{Wish, wish_at, wishes_in}
use Rattle.planner.specs.declared.times.Times.{Times}
use Rattle.planner.specs.Moves.{moment_for, moved_at, listed}

-- every number of the question is within its limits
unfoldable pub question_ok : State → ℕ → List ℕ → Bool
question_ok s τ rates = both (state_ok s) (both (leb τ event_time_max) (rates_ok rates))

-- the part of the answer that the wishes don't decide: 1 2 9
abbrev pub standing_list : State → ℕ → List ℕ → List Rule
standing_list s τ rates =
    refuse outside_limits (not (question_ok s τ rates))
    ∷ refuse too_early (ltb τ s.last)
    ∷ refuse no_lanes (ltb (shared_pool s) (floors_of s))
    ∷ []

unfoldable pub standing_answer : State → ℕ → List ℕ → ℕ
standing_answer s τ rates = first_hit (standing_list s τ rates)

-- a wish that a title of a state can come to: it is open, and the count lies from its floor to its cap
pub record WishFits (s : State) (w : Wish) : Type 0 where
  pub an_id : w.title ≤ id_max
  pub is_open : (title_at s w.title).mode ≡ open_mode
  pub low : (title_at s w.title).film.floor ≤ w.count
  pub high : w.count ≤ (title_at s w.title).film.cap

abbrev pub WishesFit : State → Wishes → Type 0
WishesFit s w = (j : ℕ) → j < w.many → WishFits s (wish_at w.titles w.counts j)

-- the moment of the last of some wishes, τ where there are none
unfoldable pub last_moment : State → ℕ → List Wish → ℕ
last_moment s τ [] = τ
last_moment s τ (w ∷ ws) = last_moment (moved_at s τ w) (moment_for s τ w) ws

-- the first n numbers of a row
unfoldable pub first_of : List ℕ → ℕ → List ℕ
first_of row zero = []
first_of row (suc n) = first_of row n ++ (get_or row n 0 ∷ [])

-- the moments of the wishes, in the first places of a row, and the last of them
pub record ListTimed (s : State) (τ : ℕ) (w : Wishes) (r : Times) : Type 0 where
  pub last : r.last ≡ last_moment s τ (wishes_in w)
  pub row : first_of r.row w.many ≡ map (λ m. m.time) (listed s τ (wishes_in w))
