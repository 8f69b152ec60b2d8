-- What is promised of a list where nobody else acts (02, 11): each event is accepted at its time by the scheduler's own call
-- and could not have come earlier; or some event falls after the clock's last time.
use Rattle.std.specs.Prelude.{ℕ, ◌+◌, ◌*◌, ◌≤◌, ◌<◌, ◌≡◌, true, false, List, [], ◌∷◌}
use Rattle.rules.specs.Limits.{length_max, event_time_max, asked_max, titles_max}
use Rattle.rules.specs.Refusals.{pick}
use Rattle.story.specs.declared.State.{State}
use Rattle.story.specs.Kept.{open_mode, is_steady_title, title_at, state_ok, ruling}
use Rattle.story.specs.declared.Act.TheVariants.{Changes}
use Rattle.story.specs.Story.{event}
use Rattle.story.specs.Runs.{answered, called}
use Rattle.sharers.specs.Sharers.{takes_part}
use Rattle.wishes.specs.Wishes.{Wish, share_of}
use Rattle.moments.specs.Moments.{is_due}
use Rattle.planner.specs.Moves.{Move, as_event}

-- what a title is to have: its share where it takes part, else what it has
abbrev pub goal_of : State → List ℕ → ℕ → ℕ
goal_of s rates i = pick (takes_part s i) (share_of s rates i) (ruling (title_at s i))

-- a change that only its time and the lanes may refuse
pub record Ready (s : State) (i k : ℕ) : Type 0 where
  pub ok : state_ok s ≡ true
  pub an_id : i < titles_max
  pub is_open : (title_at s i).mode ≡ open_mode
  pub padded : is_steady_title (title_at s i) ≡ false
  pub low : (title_at s i).film.floor ≤ k
  pub high : k ≤ (title_at s i).film.cap
  pub other : k ≡ (title_at s i).count → ⊥

-- a moment by which every list has gone, in every state within its limits: no title is opened later than the last time
-- that may be asked, no lane owes for longer than twice as many ticks, and no tick is longer than the longest film
abbrev pub all_gone : ℕ
all_gone = asked_max + (asked_max + asked_max) * length_max

-- m comes in the state s: from τ on and within the clock, accepted at its time, and refused at every earlier time from τ on
pub record Comes (s : State) (τ : ℕ) (m : Move) : Type 0 where
  pub after : τ ≤ m.time
  pub in_clock : m.time ≤ event_time_max
  pub accepted : answered s (as_event m) ≡ 0
  pub no_earlier : (υ : ℕ) → τ ≤ υ → υ < m.time → answered s (event m.title υ (Changes m.count)) ≡ 0 → ⊥

-- the events of a list come one behind the other, from the state s and the time τ on, and leave a state
pub data Carried : State → ℕ → List Move → State → Type 0 where
  all_came : {s : State} {τ : ℕ} → Carried s τ [] s
  next_comes : {s z : State} {τ : ℕ} {m : Move} {ms : List Move} → Comes s τ m →
      Carried (called s (as_event m)) m.time ms z → Carried s τ (m ∷ ms) z

-- the earliest time from τ on at which a wish may come true, over all times, lies after the clock's last
pub record Falls (s : State) (τ : ℕ) (w : Wish) : Type 0 where
  pub time : ℕ
  pub past : event_time_max < time
  pub due : is_due s w.title w.count time ≡ true
  pub no_earlier : (υ : ℕ) → τ ≤ υ → υ < time → is_due s w.title w.count υ ≡ false

-- of wishes that come true in their order, one falls after the clock's last time, and those before it come
pub data Past : State → ℕ → List Wish → Type 0 where
  this_falls : {s : State} {τ : ℕ} {w : Wish} {ws : List Wish} → Falls s τ w → Past s τ (w ∷ ws)
  later_falls : {s : State} {τ : ℕ} {m : Move} {ws : List Wish} → Comes s τ m →
      Past (called s (as_event m)) m.time ws → Past s τ (record { title = m.title; count = m.count } ∷ ws)
