-- What the searches for a moment find: the first time that a title's rules permit, and the first at which lanes are released; and what
-- is asked of the titles that they look at.
use Rattle.std.specs.Prelude.{ℕ, suc, ◌+◌, ◌*◌, ◌^◌, ◌≤◌, ◌<◌, min, ◌≡◌, Bool, true, false, not, ltb, eqb, get_or}
use Rattle.rules.specs.Limits.{both, event_time_max, asked_max, count_max, length_max, lane_places, titles_max}
use Rattle.story.specs.declared.Title.{Title}
use Rattle.story.specs.declared.State.{State}
use Rattle.story.specs.Kept.{absent_mode, scheme_in, title_tick, title_at, row_ok, settled_at, title_held, lanes_held}
use Rattle.story.specs.Calls.{at_slot_start}
use Rattle.measures.specs.Readable.{Filmed}

-- r is the first time from τ on that passes a test, and lies no later than hi
pub record Found (p : ℕ → Bool) (τ hi r : ℕ) : Type 0 where
  pub after : τ ≤ r
  pub high : r ≤ hi
  pub hit : p r ≡ true
  pub none : (υ : ℕ) → τ ≤ υ → υ < r → p υ ≡ false

-- a slot of a count of a title, in ms, and the longest that there is
abbrev pub slot_ms : Title → ℕ → ℕ
slot_ms t c = (scheme_in t).slot_of c * title_tick t

abbrev pub slot_most : ℕ
slot_most = 2 ^ count_max * length_max

-- a title may have an event at τ that has to come at a slot start of count c: it is not the moment of its last event
unfoldable pub turns : Title → ℕ → ℕ → Bool
turns t c τ = both (not (eqb τ t.last)) (at_slot_start t c τ)

-- the rules of a title permit a change at τ that has to come at a slot start of count c
unfoldable pub permits : Title → ℕ → ℕ → Bool
permits t c τ = both (not (eqb τ t.last)) (both (not (ltb τ (settled_at t))) (at_slot_start t c τ))

-- a title whose releases can be told: its film, its opening and what its lanes owe are within their limits
pub record Timed (t : Title) : Type 0 where
  pub film : Filmed t.film
  pub opened : t.opened ≤ asked_max
  pub dropped : row_ok t.dropped lane_places ≡ true
  pub owed : row_ok t.owed lane_places ≡ true

abbrev pub AllTimed : State → Type 0
AllTimed s = (i : ℕ) → i < titles_max → ((title_at s i).mode ≡ absent_mode → ⊥) → Timed (title_at s i)

-- from this moment on the list of lane l has gone; a list of more ticks than the clock has ms goes past the clock
unfoldable pub release_moment : Title → ℕ → ℕ
release_moment t l =
    t.opened
    + min (get_or t.dropped l 0 + get_or t.owed l 0) (suc event_time_max) * title_tick t

-- r is the first time from τ on, up to the clock's last, at which no more than m lanes are held, or the one after them
pub record Lessens (held : ℕ → ℕ) (m τ r : ℕ) : Type 0 where
  pub after : τ ≤ r
  pub high : r ≤ suc event_time_max
  pub free : r ≤ event_time_max → held r ≤ m
  pub full : (υ : ℕ) → τ ≤ υ → υ < r → m < held υ

-- no more than the pool is held, over all titles
abbrev pub Frees : State → ℕ → ℕ → Type 0
Frees s = Lessens (lanes_held s) s.pool

-- a title holds no lane
abbrev pub Goes : Title → ℕ → ℕ → Type 0
Goes t = Lessens (title_held t) 0
