-- The planner's list (02, 11): each wish at the earliest time at which it may come true, from the given time and the event
-- listed before it on, in the state that the events before it leave.
use Rattle.std.specs.Prelude.{ℕ, Bool, false, List, [], ◌∷◌, ltb}
use Rattle.rules.specs.Limits.{either, event_time_max}
use Rattle.story.specs.declared.State.{State}
use Rattle.story.specs.declared.Act.TheVariants.{Changes}
use Rattle.story.specs.declared.Event.{Event}
use Rattle.story.specs.Story.{event}
use Rattle.story.specs.Next.{change_next}
use Rattle.wishes.specs.Wishes.{Wish}
use Rattle.moments.specs.Moments.{is_due, earliest}

-- a listed change: of a title, at a time, to a count
pub record Move : Type 0 where
  pub title : ℕ
  pub time : ℕ
  pub count : ℕ

-- the change as an event
abbrev pub as_event : Move → Event
as_event m = event m.title m.time (Changes m.count)

-- the earliest time from τ on at which a wish may come true in a state
abbrev pub moment_for : State → ℕ → Wish → ℕ
moment_for s τ w = earliest (is_due s w.title w.count) τ

abbrev pub move_at : State → ℕ → Wish → Move
move_at s τ w = record { title = w.title; time = moment_for s τ w; count = w.count }

-- the state once it has come true
abbrev pub moved_at : State → ℕ → Wish → State
moved_at s τ w = change_next s w.title (moment_for s τ w) w.count

-- the list for some wishes, in their order
unfoldable pub listed : State → ℕ → List Wish → List Move
listed s τ [] = []
listed s τ (w ∷ ws) = move_at s τ w ∷ listed (moved_at s τ w) (moment_for s τ w) ws

-- the state that they leave
unfoldable pub all_moved : State → ℕ → List Wish → State
all_moved s τ [] = s
all_moved s τ (w ∷ ws) = all_moved (moved_at s τ w) (moment_for s τ w) ws

-- some event of a list falls after the clock's last time
unfoldable pub falls_past : List Move → Bool
falls_past [] = false
falls_past (m ∷ ms) = either (ltb event_time_max m.time) (falls_past ms)
