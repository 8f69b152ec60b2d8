-- No mark of a box's picture lies past the line at which cells play.
use Rattle.std.specs.Prelude.{ℕ, ◌*◌, ◌≤◌, ◌<◌, ◌≡◌, true, List}
use Rattle.rules.specs.Limits.{lane_places}
use Rattle.rules.specs.Refusals.{done}
use Rattle.notice.specs.Log.{Bytes}
use Rattle.story.specs.Life.{is_film}
use Rattle.agent.specs.Played.{life_in}
use Rattle.takings.specs.Takings.{place_tick}
use Rattle.log_boxes.specs.Box.{box_ticks, box_answer, is_box_start, box_place}

-- a cell has a mark, and in a tick no later than its turn
pub record TakenInTime (pool : ℕ) (log : List ℕ) (title x c : ℕ) : Type 0 where
  pub is_taken_holds : box_place pool log title x c < box_ticks (life_in pool log title) * lane_places
  pub in_time : place_tick (box_place pool log title x c) ≤ c

-- so it is of every cell that holds film, of every box that is drawn
abbrev pub EveryCellInTime : Type 0
EveryCellInTime =
    (pool : ℕ) (log : List ℕ) (title x c : ℕ) → Bytes log → box_answer pool log title x ≡ done →
    is_box_start (life_in pool log title) x ≡ true → c < box_ticks (life_in pool log title) → is_film (life_in pool log title) c ≡ true →
    TakenInTime pool log title x c
