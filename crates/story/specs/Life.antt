-- One title's life since its latest opening: its numbers, the count that rules and the doors at each tick, and what follows
-- from them alone: admissions, drops, owed ticks, what is on air on a lane, and whether the lane is held (01, "Events").
-- Nothing here reads what the scheduler stores.
use Rattle.std.specs.Prelude.{ℕ, ◌+◌, ◌-◌, ◌*◌, ◌^◌, Bool, true, false, not, ltb, eqb}
use Rattle.rules.specs.Limits.{both}
use Rattle.rules.specs.Refusals.{pick}
use Rattle.rules.specs.Search.{some, first, how_many, after}
use Rattle.scheme.specs.Scheme.{Scheme, scheme_of, tick_for, film_in, starts, takes}
use Rattle.story.specs.declared.Film.{Film}

-- a title since its latest opening; its rule gives the ruling count at a tick, 0 once the title is closing: a close is
-- a change to no lanes
pub record Life : Type 0 where
  pub film : Film
  pub opened : ℕ
  pub rule : ℕ → ℕ
  -- the doors are held at a tick: no box may begin then
  pub shut : ℕ → Bool

-- what events turn: the rule and the doors
pub record Course : Type 0 where
  pub rule : ℕ → ℕ
  pub shut : ℕ → Bool

-- the same title on another course
abbrev pub on_course : Life → Course → Life
on_course L r =
    record { film = L.film; opened = L.opened; rule = r.rule; shut = r.shut }

-- the scheme that a film is sent by, and its tick in ms
abbrev pub scheme_by : Film → Scheme
scheme_by f = scheme_of f.kind f.floor f.cap

abbrev pub tick_by : Film → ℕ
tick_by f = tick_for f.kind f.length f.floor f.cap

-- 02, 9: one slot of the floor, in ms, for which a modulator card settles
abbrev pub floor_slot : Film → ℕ
floor_slot f = (scheme_by f).slot_of f.floor * tick_by f

-- the title's scheme
abbrev pub scheme : Life → Scheme
scheme L = scheme_by L.film

-- what it says of the title: cell c holds film,
abbrev pub is_film : Life → ℕ → Bool
is_film L c = film_in L.film.length (tick_by L.film) c

-- the cell that lane l carries at tick t while it is active,
abbrev pub usual_cell : Life → ℕ → ℕ → ℕ
usual_cell L l t = (scheme L).on_lane l t

-- and cell c is in the plan of a box that starts at tick a, at exactly tick t
abbrev pub is_planned : Life → ℕ → ℕ → ℕ → Bool
is_planned L a c t = takes (scheme L) (L.rule a) a c t

-- 01, "Events", and 02, 7: a slot start under the count ruling at that tick, while the title is open and not closing, and
-- its doors are not held
unfoldable pub is_admission : Life → ℕ → Bool
is_admission L a = both (ltb 0 (L.rule a)) (both (not (L.shut a)) (starts (scheme L) (L.rule a) a))

-- 01, "Lanes are ours": with count k lanes 0 to k - 1 are active
unfoldable pub is_active : Life → ℕ → ℕ → Bool
is_active L l t = ltb l (L.rule t)

-- the tick at which lane l was last dropped, seen from a tick t at which it is not active; 0 where it never was active
unfoldable pub dropped_at : Life → ℕ → ℕ → ℕ
dropped_at L l t = after (is_active L l) t

-- cell c is in the plan of some admission before T, at exactly tick t
unfoldable pub is_awaited : Life → ℕ → ℕ → ℕ → Bool
is_awaited L T c t = some (λ a. both (is_admission L a) (is_planned L a c t)) T

-- 01, "Events", and 02, 5: of lane l, dropped at T, tick t is owed: its cell is awaited then and holds film
unfoldable pub is_owed : Life → ℕ → ℕ → ℕ → Bool
is_owed L l T t = both (is_film L (usual_cell L l t)) (is_awaited L T (usual_cell L l t) t)

-- no tick is owed that is this far from the drop: no channel is taken for longer
unfoldable pub reach : ℕ → ℕ
reach K = 2 ^ (K - 1)

-- how many owed ticks there are from T up to, not including, T + n
unfoldable pub owed_within : Life → ℕ → ℕ → ℕ → ℕ
owed_within L l T n = how_many (λ o. is_owed L l T (T + o)) n

-- how many cells lane l owes when it is dropped at T
unfoldable pub owes : Life → ℕ → ℕ → ℕ
owes L l T = owed_within L l T (reach L.film.cap)

-- tick T + o is owed, with just i owed ticks before it
unfoldable pub is_nth : Life → ℕ → ℕ → ℕ → ℕ → Bool
is_nth L l T i o = both (is_owed L l T (T + o)) (eqb (owed_within L l T o) i)

-- how far from T that owed tick is
unfoldable pub nth_owed : Life → ℕ → ℕ → ℕ → ℕ
nth_owed L l T i = first (is_nth L l T i) (reach L.film.cap)

-- what a lane shows in a tick
pub data Air : Type 0 where
  nothing : Air
  cell : ℕ → Air

-- 01, "Events": the owed cells go out in order of their ticks, one per tick from T, without gaps
unfoldable pub sends : Life → ℕ → ℕ → ℕ → Air
sends L l T i =
    pick (ltb (nth_owed L l T i) (reach L.film.cap)) (cell (usual_cell L l (T + nth_owed L l T i))) nothing

-- what is on air on lane l at tick t
unfoldable pub on_air : Life → ℕ → ℕ → Air
on_air L l t =
    pick (is_active L l t) (cell (usual_cell L l t)) (sends L l (dropped_at L l t) (t - dropped_at L l t))

abbrev pub is_cell : Air → Bool
is_cell nothing = false
is_cell (cell c) = true

-- 01, "Events": active or still sending
unfoldable pub is_held : Life → ℕ → ℕ → Bool
is_held L l t = is_cell (on_air L l t)
