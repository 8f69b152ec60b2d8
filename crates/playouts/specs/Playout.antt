-- What the lanes of a title carry from a tick of its latest opening in a log on, for so many ticks: the refusals in order, and the
-- numbers.
use Rattle.std.specs.Prelude.{ℕ, ◌+◌, ◌-◌, ◌*◌, Bool, not, List, [], ◌∷◌, leb, ltb}
use Rattle.rules.specs.Limits.{both, within, asked_max, lane_places}
use Rattle.rules.specs.Refusals.{Rule, refuse, first_hit, outside_limits, malformed, not_there}
use Rattle.notice.specs.Log.{is_whole_log}
use Rattle.story.specs.Life.{Life}
use Rattle.story.specs.Story.{moment_of}
use Rattle.agent.specs.Played.{events_played, life_in}
use Rattle.judging.specs.Record.{ticks_max}
use Rattle.airing.specs.Air.{in_limits}
use Rattle.airing.specs.Own.{own_number}

-- a first tick and a number of ticks that may be given: as many as a record of the air may have, and one at least
abbrev pub is_window : ℕ → ℕ → Bool
is_window from ticks = both (leb from asked_max) (within 1 ticks_max ticks)

-- pool, title and window within their limits
unfoldable pub playout_limits : ℕ → ℕ → ℕ → ℕ → Bool
playout_limits pool title from ticks = both (in_limits pool title) (is_window from ticks)

-- the title was opened, as a film of either kind
unfoldable pub was_opened : Life → Bool
was_opened L = ltb 0 L.film.cap

-- the last tick of a window, whose start is a moment that may be asked about
abbrev pub last_tick_of : ℕ → ℕ → ℕ
last_tick_of from ticks = from + ticks - 1

unfoldable pub is_askable : Life → ℕ → Bool
is_askable L tick = leb (moment_of L tick) asked_max

abbrev pub playout_rules : ℕ → List ℕ → ℕ → ℕ → ℕ → List Rule
playout_rules pool log title from ticks =
    refuse outside_limits (not (playout_limits pool title from ticks))
    ∷ refuse malformed (not (is_whole_log log))
    ∷ refuse not_there (not (was_opened (life_in pool log title)))
    ∷ refuse outside_limits (not (is_askable (life_in pool log title) (last_tick_of from ticks)))
    ∷ []

unfoldable pub playout_answer : ℕ → List ℕ → ℕ → ℕ → ℕ → ℕ
playout_answer pool log title from ticks = first_hit (playout_rules pool log title from ticks)

-- the number at a place, twelve of them to a tick: what the lane question answers at the tick's start, after the events up to that
-- very moment
unfoldable pub playout_number : ℕ → List ℕ → ℕ → ℕ → ℕ → ℕ
playout_number pool log title from j = own_number pool (events_played pool log) title (from * lane_places + j)
