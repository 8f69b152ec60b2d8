-- What the air really carried (02, request 13): the refusals in order, and what the call leaves, for the title's life since its
-- latest opening in a log of notices.
use Rattle.std.specs.Prelude.{ℕ, ◌%◌, Bool, not, List, [], ◌∷◌, leb, ltb, eqb, get_or, length}
use Rattle.rules.specs.Limits.{both, either, within, pool_min, pool_max, id_max, lane_places}
use Rattle.rules.specs.Refusals.{pick, Rule, refuse, first_hit, done, outside_limits, wrong_rows, malformed, not_there}
use Rattle.rules.specs.Search.{every}
use Rattle.grid.specs.Ticks.{cells}
use Rattle.plans.specs.Row.{written}
use Rattle.scheme.specs.Scheme.{padded_kind}
use Rattle.notice.specs.Log.{is_whole_log}
use Rattle.story.specs.Life.{Life, is_admission}
use Rattle.agent.specs.Played.{life_in}
use Rattle.judging.specs.Record.{nothing_seen, ticks_max, ticks_in}
use Rattle.judging.specs.Judged.{judged_in, played_in, outlasting_in, results_in}
use Rattle.airing.specs.declared.Judgement.{Judgement}

-- pool and title within their limits
abbrev pub in_limits : ℕ → ℕ → Bool
in_limits pool title = both (within pool_min pool_max pool) (leb title id_max)

-- a record of whole ticks, not too many, and a room with a place for each
unfoldable pub has_room_for : List ℕ → ℕ → Bool
has_room_for r room = both (eqb (length r % lane_places) 0) (both (leb (ticks_in r) ticks_max) (leb (ticks_in r) room))

-- the title was opened, and last as a film with floor and cap
unfoldable pub is_film_title : Life → Bool
is_film_title L = both (ltb 0 L.film.cap) (eqb L.film.kind padded_kind)

-- a number is a cell of a title with cap K, or nothing
abbrev pub is_cell_of : ℕ → ℕ → Bool
is_cell_of K n = either (eqb n nothing_seen) (ltb n (cells K))

-- every number of a record is
unfoldable pub all_cells : ℕ → List ℕ → Bool
all_cells K r = every (λ j. is_cell_of K (get_or r j 0)) (length r)

abbrev pub air_rules : ℕ → List ℕ → ℕ → List ℕ → ℕ → List Rule
air_rules pool log title r room =
    refuse outside_limits (not (in_limits pool title))
    ∷ refuse wrong_rows (not (has_room_for r room))
    ∷ refuse malformed (not (is_whole_log log))
    ∷ refuse not_there (not (is_film_title (life_in pool log title)))
    ∷ refuse outside_limits (not (all_cells (life_in pool log title).film.cap r))
    ∷ []

unfoldable pub air_answer : ℕ → List ℕ → ℕ → List ℕ → ℕ → ℕ
air_answer pool log title r room = first_hit (air_rules pool log title r room)

-- beside a refusal the other numbers are 0
abbrev pub refused_judgement : ℕ → Judgement
refused_judgement n = record { answer = n; judged = 0; played = 0; outlast = 0 }

-- how many admissions of a life a record judges, how many of those played through, and how many outlast it
abbrev pub judgement_of : Life → List ℕ → Judgement
judgement_of L r = record { answer = done; judged = judged_in L r; played = played_in L r; outlast = outlasting_in L r }

-- what the call gives back, over a room of so many places,
unfoldable pub air_gives : ℕ → List ℕ → ℕ → List ℕ → ℕ → Judgement
air_gives pool log title r room =
    pick (eqb (air_answer pool log title r room) done) (judgement_of (life_in pool log title) r)
    (refused_judgement (air_answer pool log title r room))

-- and what it leaves in the room: a refusal writes nothing
unfoldable pub air_leaves : ℕ → List ℕ → ℕ → List ℕ → List ℕ → List ℕ
air_leaves pool log title r row =
    pick (eqb (air_answer pool log title r (length row)) done) (results_in (life_in pool log title) r row) row

-- the call that tells at which ticks of its latest opening a title of a log has admissions, in a lent row of marks
abbrev pub ticks_rules : ℕ → List ℕ → ℕ → List Rule
ticks_rules pool log title =
    refuse outside_limits (not (in_limits pool title))
    ∷ refuse malformed (not (is_whole_log log))
    ∷ refuse not_there (not (is_film_title (life_in pool log title)))
    ∷ []

unfoldable pub ticks_answer : ℕ → List ℕ → ℕ → ℕ
ticks_answer pool log title = first_hit (ticks_rules pool log title)

-- a mark for a tick: 1 where it is an admission
abbrev pub mark_of : Life → ℕ → ℕ
mark_of L t = pick (is_admission L t) 1 0

-- what it leaves in the row: each place the mark of its tick; a refusal writes nothing
unfoldable pub ticks_leaves : ℕ → List ℕ → ℕ → List ℕ → List ℕ
ticks_leaves pool log title row =
    pick (eqb (ticks_answer pool log title) done) (written (mark_of (life_in pool log title)) row (length row)) row
