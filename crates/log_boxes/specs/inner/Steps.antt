-- What the code reads off the title as it stands at the log's end.
use Rattle.std.specs.Prelude.{ℕ, ◌+◌, ◌-◌, ◌*◌, ◌≡◌, List, eqb, length}
use Rattle.rules.specs.Limits.{lane_places}
use Rattle.rules.specs.Refusals.{pick, done}
use Rattle.grid.specs.Ticks.{cells}
use Rattle.story.specs.declared.Title.{Title}
use Rattle.story.specs.Kept.{tick_at, title_at}
use Rattle.agent.specs.Played.{agent_played}
use Rattle.playouts.specs.inner.Steps.{Opened}
use Rattle.log_boxes.specs.Box.{box_answer}

-- the last tick of a box that begins in the tick that holds a moment
unfoldable pub last_tick : Title → ℕ → ℕ
last_tick t x = pick (eqb t.film.cap 0) 0 (tick_at t x + cells t.film.cap - 1)

-- a title as it stands at the end of a log in which a box is not refused
pub record BoxStands (pool : ℕ) (log : List ℕ) (title x : ℕ) (t : Title) : Type 0 where
  pub granted : box_answer pool log title x ≡ done
  pub title_is : t ≡ title_at (agent_played pool log).state title
  pub opened : Opened t

-- rooms for the numbers of all its ticks, and for the places of all its cells
pub record BoxRooms (t : Title) (numbers places : List ℕ) : Type 0 where
  pub numbers_long : length numbers ≡ cells t.film.cap * lane_places
  pub places_long : length places ≡ cells t.film.cap
