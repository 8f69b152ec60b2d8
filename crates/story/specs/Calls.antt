-- What each call answers, in 01's order of refusals, read off the state as it stands (01, "Numbers that calls give back").
use Rattle.std.specs.Prelude.{ℕ, ◌≡◌, Bool, not, List, [], ◌∷◌, leb, ltb, eqb, get_or, length, replicate}
use Rattle.rules.specs.Limits.{both, within, pool_min, pool_max, id_max, event_time_max, asked_max, lane_max, count_places}
use Rattle.rules.specs.Limits.{lane_places, titles_max}
use Rattle.rules.specs.Refusals.{pick, Rule, refuse, first_hit, outside_limits}
use Rattle.rules.specs.Search.{every}
use Rattle.scheme.specs.Scheme.{starts}
use Rattle.story.specs.declared.Title.{Title}
use Rattle.story.specs.declared.State.{State}
use Rattle.story.specs.Orders.{Tests, lane_order, status_order}
use Rattle.story.specs.declared.Act.{Act}
use Rattle.story.specs.Story.{act_limits, permitted, order_of}
use Rattle.story.specs.Story.{is_crossed, is_below, is_above, is_same, is_same_doors}
use Rattle.story.specs.Kept.{absent_mode, closing_mode, clear_mark, no_film, title_at, is_shut, is_steady_title, scheme_in, state_ok}
use Rattle.story.specs.Kept.{tick_at, at_tick_start, ruling, kept_held, settled_at, title_held, lanes_held, is_there, shows}
use Rattle.story.specs.Next.{call_next}

-- the slot of an id that no event has named
abbrev pub blank_title : Title
blank_title =
    record {
      mode = absent_mode;
      film = no_film;
      opened = 0;
      count = 0;
      mark = clear_mark;
      last = 0;
      tuned = 0;
      ends = replicate count_places 0;
      dropped = replicate lane_places 0;
      owed = replicate lane_places 0;
    }

-- a pool without titles
abbrev pub empty_pool : ℕ → State
empty_pool n = record { pool = n; last = 0; titles = replicate titles_max blank_title }

abbrev pub fresh_answer : ℕ → ℕ
fresh_answer n = first_hit (refuse outside_limits (not (within pool_min pool_max n)) ∷ [])

-- a refused fresh call gives a pool of 0 lanes
abbrev pub fresh_next : ℕ → State
fresh_next n = empty_pool (pick (within pool_min pool_max n) n 0)

-- the numbers of an event that every kind has
abbrev pub event_ok : State → ℕ → ℕ → Bool
event_ok s i τ = both (state_ok s) (both (leb i id_max) (leb τ event_time_max))

-- more lanes than the pool has would be held in a state at a time
abbrev pub too_many : State → ℕ → Bool
too_many s τ = ltb s.pool (lanes_held s τ)

-- a time that is a slot start of count k of a title
abbrev pub at_slot_start : Title → ℕ → ℕ → Bool
at_slot_start t k τ = both (at_tick_start t τ) (starts (scheme_in t) k (tick_at t τ))

-- what the refusals ask of an event of title i at τ, read off the state as it stands
abbrev pub tests_in : State → ℕ → ℕ → Act → Tests
tests_in s i τ a =
    record {
      outside = not (act_limits a (event_ok s i τ));
      early = ltb τ s.last;
      there = is_there (title_at s i) τ;
      closing = eqb (title_at s i).mode closing_mode;
      steady = is_steady_title (title_at s i);
      crossed = is_crossed a;
      below = is_below a (title_at s i).film.floor;
      above = is_above a (title_at s i).film.cap;
      same = is_same a (title_at s i).count;
      same_doors = is_same_doors a (is_shut (title_at s i));
      second = eqb τ (title_at s i).last;
      soon = ltb τ (settled_at (title_at s i));
      off = not (at_slot_start (title_at s i) (permitted a (title_at s i).film.floor (title_at s i).count) τ);
      full = too_many (call_next s i τ a) τ;
    }

-- the number that a call of the scheduler answers to an event
unfoldable pub call_answer : State → ℕ → ℕ → Act → ℕ
call_answer s i τ a = first_hit (order_of a (tests_in s i τ a))

-- lane l of a title is held at a time
abbrev pub lane_held : Title → ℕ → ℕ → Bool
lane_held t l τ = both (not (eqb t.mode absent_mode)) (both (ltb l t.film.cap) (kept_held t l (tick_at t τ)))

abbrev pub lane_rules : State → ℕ → ℕ → ℕ → List Rule
lane_rules s i l τ =
    lane_order (not (both (state_ok s) (both (leb i id_max) (both (leb l lane_max) (leb τ asked_max)))))
    (ltb τ (title_at s i).last)
    (not (lane_held (title_at s i) l τ))

unfoldable pub lane_answer : State → ℕ → ℕ → ℕ → ℕ
lane_answer s i l τ = first_hit (lane_rules s i l τ)

-- the cell that goes out; 0 beside a refusal
unfoldable pub lane_shows : State → ℕ → ℕ → ℕ → ℕ
lane_shows s i l τ = pick (eqb (lane_answer s i l τ) 0) (shows (title_at s i) l (tick_at (title_at s i) τ)) 0

-- the lane question is answered 0 and cell c
abbrev pub AnswersCell : State → (i l τ c : ℕ) → Type 0
AnswersCell s i l τ c = (lane_answer s i l τ ≡ 0) × (lane_shows s i l τ ≡ c)

-- status over a row of ids, with rows of m counts, h numbers of lanes held and d marks
abbrev pub status_rules : State → ℕ → List ℕ → ℕ → ℕ → ℕ → List Rule
status_rules s τ ids m h d =
    status_order (not (both (eqb m (length ids)) (both (eqb h (length ids)) (eqb d (length ids)))))
    (not (both (state_ok s) (both (leb τ asked_max) (every (λ j. leb (get_or ids j 0) id_max) (length ids)))))
    (ltb τ s.last)

unfoldable pub status_answer : State → ℕ → List ℕ → ℕ → ℕ → ℕ → ℕ
status_answer s τ ids m h d = first_hit (status_rules s τ ids m h d)

-- what status fills in for an id: its count, 0 where it isn't open, the lanes it holds, and its mark, unset where the count
-- shows 0
abbrev pub status_count : State → ℕ → ℕ
status_count s i = ruling (title_at s i)

abbrev pub status_held : State → ℕ → ℕ → ℕ
status_held s i τ = title_held (title_at s i) τ

abbrev pub status_mark : State → ℕ → ℕ
status_mark s i = pick (eqb (status_count s i) 0) clear_mark (title_at s i).mark
