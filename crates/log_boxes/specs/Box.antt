-- The box that begins at a moment x of a title in a log: the refusals in order, whether the moment is an admission, the places at which the
-- box takes its cells, and the picture.
use Rattle.std.specs.Prelude.{ℕ, ◌+◌, ◌*◌, max, ◌≡◌, Bool, true, false, not, List, [], ◌∷◌, leb, eqb}
use Rattle.rules.specs.Limits.{both, asked_max, lane_places}
use Rattle.rules.specs.Refusals.{pick, Rule, refuse, first_hit, done, outside_limits, malformed, not_there}
use Rattle.grid.specs.Ticks.{cells}
use Rattle.notice.specs.Log.{is_whole_log}
use Rattle.story.specs.Life.{Life}
use Rattle.story.specs.Story.{moment_of, tick_in, tick_length}
use Rattle.agent.specs.Played.{life_in}
use Rattle.admissions.specs.Waits.{lets_in, Next, TurnedAway}
use Rattle.airing.specs.Air.{in_limits}
use Rattle.playouts.specs.Playout.{was_opened, is_askable, last_tick_of, playout_number}
use Rattle.playouts.specs.Lines.{refused_line}
use Rattle.takings.specs.Takings.{taking_place}
use Rattle.box_charts.specs.declared.Begun.{Begun}
use Rattle.box_charts.specs.Picture.{box_drawing}
use Rattle.log_boxes.specs.declared.Beginning.{Beginning}

-- the box's ticks: as many as the title has cells, from the tick that holds the moment on
abbrev pub box_ticks : Life → ℕ
box_ticks L = cells L.film.cap

unfoldable pub box_limits : ℕ → ℕ → ℕ → Bool
box_limits pool title x = both (in_limits pool title) (leb x asked_max)

abbrev pub box_rules : ℕ → List ℕ → ℕ → ℕ → List Rule
box_rules pool log title x =
    refuse outside_limits (not (box_limits pool title x))
    ∷ refuse malformed (not (is_whole_log log))
    ∷ refuse not_there (not (was_opened (life_in pool log title)))
    ∷ refuse outside_limits (not (is_askable (life_in pool log title) (last_tick_of (tick_in (life_in pool log title) x) (box_ticks (life_in pool log title)))))
    ∷ []

unfoldable pub box_answer : ℕ → List ℕ → ℕ → ℕ → ℕ
box_answer pool log title x = first_hit (box_rules pool log title x)

-- the moment is the start of a tick that is an admission
unfoldable pub is_box_start : Life → ℕ → Bool
is_box_start L x = both (lets_in L x (tick_in L x)) (eqb (moment_of L (tick_in L x)) x)

-- the place at which the box takes a cell, by the numbers of the title's lanes from its start on
unfoldable pub box_place : ℕ → List ℕ → ℕ → ℕ → ℕ → ℕ
box_place pool log title x c =
    taking_place (life_in pool log title).film.length (tick_length (life_in pool log title))
    (playout_number pool log title (tick_in (life_in pool log title) x)) (box_ticks (life_in pool log title) * lane_places) c

abbrev pub begun_of : Life → ℕ → ℕ → Begun
begun_of L title x = record { title = title; moment = x; tick = tick_length L; lanes = L.film.cap }

abbrev pub box_picture : ℕ → List ℕ → ℕ → ℕ → List ℕ
box_picture pool log title x =
    box_drawing (begun_of (life_in pool log title) title x) (box_place pool log title x) (box_ticks (life_in pool log title))

-- what is written: the picture at an admission, nothing at another moment, or the refusal
unfoldable pub box_text : ℕ → List ℕ → ℕ → ℕ → List ℕ
box_text pool log title x =
    pick (eqb (box_answer pool log title x) done)
    (pick (is_box_start (life_in pool log title) x) (box_picture pool log title x) [])
    (refused_line (box_answer pool log title x))

-- beside a refusal nothing else is told
abbrev pub refused_beginning : ℕ → Beginning
refused_beginning n = record { answer = n; follows = false; from = 0; wait = 0 }

-- who asks before the opening waits from then on
abbrev pub asked_from : Life → ℕ → ℕ
asked_from L x = max x L.opened

-- what is told of a moment: the answer, whether an admission follows, from when on it is waited for, and how long
pub record BeginsAt (pool : ℕ) (log : List ℕ) (title x : ℕ) (r : Beginning) : Type 0 where
  pub answers : r.answer ≡ box_answer pool log title x
  pub waits_from : r.answer ≡ done → r.from ≡ asked_from (life_in pool log title) x
  pub lets_in_holds : r.answer ≡ done → r.follows ≡ true →
      (a : ℕ) × Next (life_in pool log title) r.from a × (moment_of (life_in pool log title) a ≡ r.from + r.wait)
  pub turned_away : r.answer ≡ done → r.follows ≡ false → TurnedAway (life_in pool log title) r.from × (r.wait ≡ 0)
  pub refuses : (r.answer ≡ done → ⊥) → r ≡ refused_beginning r.answer

-- the admission that is told of is at the very moment
unfoldable pub is_now : Beginning → ℕ → Bool
is_now r x = both r.follows (both (eqb r.from x) (eqb r.wait 0))
