-- What the scheduler keeps, and what it reads off it: the numbers' limits, ticks, lanes held, and what a lane shows (01,
-- "Events", "Status" and "Numbers that calls give back").
use Rattle.std.specs.Prelude.{ℕ, suc, ◌+◌, ◌-◌, ◌/◌, ◌%◌, Bool, not, List, [], leb, ltb, eqb, get_or}
use Rattle.rules.specs.Limits.{both, either, within, pool_min, pool_max, floor_min, floor_max, count_max, steady_max, length_min}
use Rattle.rules.specs.Limits.{length_max, asked_max, titles_max, count_places, lane_places}
use Rattle.rules.specs.Refusals.{pick}
use Rattle.rules.specs.Search.{some, every, first, how_many, total}
use Rattle.scheme.specs.Scheme.{Scheme, padded_kind, steady_kind, film_in}
use Rattle.story.specs.declared.Film.{Film}
use Rattle.story.specs.declared.Title.{Title}
use Rattle.story.specs.declared.State.{State}
use Rattle.story.specs.Life.{scheme_by, tick_by, reach, floor_slot}

-- whether a slot has a title: none, one that is open, one that is closing
abbrev pub absent_mode : ℕ
absent_mode = 0

abbrev pub open_mode : ℕ
open_mode = 1

abbrev pub closing_mode : ℕ
closing_mode = 2

-- the held mark: the doors are not held, or they are
abbrev pub clear_mark : ℕ
clear_mark = 0

abbrev pub held_mark : ℕ
held_mark = 1

abbrev pub is_shut : Title → Bool
is_shut t = eqb t.mark held_mark

abbrev pub no_film : Film
no_film = record { kind = padded_kind; length = 0; floor = 0; cap = 0 }

abbrev pub no_title : Title
no_title =
    record
    { mode = absent_mode; film = no_film; opened = 0; count = 0; mark = clear_mark; last = 0; tuned = 0; ends = []; dropped = []; owed = [] }

-- the slot of an id
abbrev pub title_at : State → ℕ → Title
title_at s i = get_or s.titles i no_title

-- limits of every stored number: 2^41 for a time or a tick, the same for a number of owed cells
abbrev pub row_ok : List ℕ → ℕ → Bool
row_ok row n = every (λ j. leb (get_or row j 0) asked_max) n

-- a skip-forward title
abbrev pub is_steady_title : Title → Bool
is_steady_title t = eqb t.film.kind steady_kind

-- its scheme
abbrev pub scheme_in : Title → Scheme
scheme_in t = scheme_by t.film

-- and its tick in ms
abbrev pub title_tick : Title → ℕ
title_tick t = tick_by t.film

-- upper limits hold for every slot
unfoldable pub numbers_ok : Title → Bool
numbers_ok t =
    both (leb t.mode closing_mode)
    (both (leb t.film.kind steady_kind)
    (both (leb t.opened asked_max)
    (both (leb t.film.length length_max)
    (both (leb t.film.floor (pick (is_steady_title t) steady_max floor_max))
    (both (leb t.film.cap count_max)
    (both (leb t.count count_max)
    (both (leb t.mark held_mark)
    (both (leb t.last asked_max)
    (both (leb t.tuned asked_max)
    (both (row_ok t.ends count_places) (both (row_ok t.dropped lane_places) (row_ok t.owed lane_places))))))))))))

-- a title that is there has its lower limits too, a floor no higher than its cap and a count from floor to cap; of a
-- skip-forward title floor and cap are one
unfoldable pub order_ok : Title → Bool
order_ok t =
    both (leb length_min t.film.length)
    (both (leb floor_min t.film.floor)
    (both (leb t.film.floor t.film.cap)
    (both (within t.film.floor t.film.cap t.count) (either (not (is_steady_title t)) (eqb t.film.floor t.film.cap)))))

unfoldable pub title_ok : Title → Bool
title_ok t = both (numbers_ok t) (either (eqb t.mode absent_mode) (order_ok t))

-- the state of a refused fresh call apart, a pool has at least a lane: a pool of 0 has no titles
abbrev pub slot_ok : State → ℕ → Bool
slot_ok s i = both (title_ok (title_at s i)) (either (leb pool_min s.pool) (eqb (title_at s i).mode absent_mode))

unfoldable pub state_ok : State → Bool
state_ok s = both (leb s.pool pool_max) (both (leb s.last asked_max) (every (slot_ok s) titles_max))

-- the ticks begun since the opening at a time in ms: B + t ticks is the start of tick t
unfoldable pub tick_at : Title → ℕ → ℕ
tick_at t τ = (τ - t.opened) / title_tick t

-- a time that is the start of a tick
unfoldable pub at_tick_start : Title → ℕ → Bool
at_tick_start t τ = eqb ((τ - t.opened) % title_tick t) 0

-- 02, 9: the moment from which on the title may change again: a floor slot after its latest opening or change
unfoldable pub settled_at : Title → ℕ
settled_at t = t.tuned + floor_slot t.film

-- the ruling count, 0 where the title isn't open
unfoldable pub ruling : Title → ℕ
ruling t = pick (eqb t.mode open_mode) t.count 0

-- channel d of count c, whose last boxes began a slot before the stored end, is taken at tick u with cell x on it
unfoldable pub wants_from : Scheme → ℕ → ℕ → ℕ → ℕ → ℕ → Bool
wants_from S end x u c d = both (ltb (u + S.slot_of c) (end + S.span c d)) (eqb (S.on_channel c d u) x)

-- the latest boxes of count c still take cell x at tick u
unfoldable pub wants : Scheme → ℕ → ℕ → ℕ → ℕ → Bool
wants S end x u c = both (ltb 0 end) (some (wants_from S end x u c) c)

-- the boxes of some count that had lane l still take cell x at tick u
unfoldable pub kept_awaited : Title → ℕ → ℕ → ℕ → Bool
kept_awaited t l x u =
    some (λ c. both (ltb l c) (both (leb t.film.floor c) (wants (scheme_in t) (get_or t.ends c 0) x u c))) (suc t.film.cap)

-- of lane l tick u is owed: its cell holds film, and is still awaited
unfoldable pub kept_owed : Title → ℕ → ℕ → Bool
kept_owed t l u =
    both (film_in t.film.length (title_tick t) ((scheme_in t).on_lane l u)) (kept_awaited t l ((scheme_in t).on_lane l u) u)

-- how many of the n ticks from T on lane l owes
unfoldable pub kept_within : Title → ℕ → ℕ → ℕ → ℕ
kept_within t l T n = how_many (λ o. kept_owed t l (T + o)) n

-- the lane is active, or its owed cells have not all gone
unfoldable pub kept_held : Title → ℕ → ℕ → Bool
kept_held t l n = either (ltb l (ruling t)) (ltb n (get_or t.dropped l 0 + get_or t.owed l 0))

-- how many lanes a title holds at a time
unfoldable pub title_held : Title → ℕ → ℕ
title_held t τ = pick (eqb t.mode absent_mode) 0 (how_many (λ l. kept_held t l (tick_at t τ)) t.film.cap)

-- how many lanes are held over all titles at a time
unfoldable pub lanes_held : State → ℕ → ℕ
lanes_held s τ = total (λ i. title_held (title_at s i) τ) titles_max

-- the title is open, or closing with a lane still held
unfoldable pub is_there : Title → ℕ → Bool
is_there t τ = either (eqb t.mode open_mode) (ltb 0 (title_held t τ))

-- tick T + o is owed, with just i owed ticks before it
unfoldable pub kept_nth : Title → ℕ → ℕ → ℕ → ℕ → Bool
kept_nth t l T i o = both (kept_owed t l (T + o)) (eqb (kept_within t l T o) i)

-- the tick whose cell a sending lane l shows at tick n
unfoldable pub sending_tick : Title → ℕ → ℕ → ℕ
sending_tick t l n = get_or t.dropped l 0 + first (kept_nth t l (get_or t.dropped l 0) (n - get_or t.dropped l 0)) (reach t.film.cap)

-- the cell that a held lane shows at tick n
unfoldable pub shows : Title → ℕ → ℕ → ℕ
shows t l n =
    (scheme_in t).on_lane l (pick (ltb l (ruling t)) n (sending_tick t l n))
