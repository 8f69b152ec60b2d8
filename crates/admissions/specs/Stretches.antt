-- How the code counts: the admissions of one stretch between two events of a title, read off what the scheduler keeps. The
-- report's contract cites nothing of this; proofs/ shows that it comes to what the events say.
use Rattle.std.specs.Prelude.{ℕ, zero, suc, ◌+◌, ◌-◌, ◌*◌, ◌^◌, ◌≤◌, ◌<◌, max, ◌≡◌, Bool, not, List, leb, ltb, eqb, get_or, length}
use Rattle.rules.specs.Limits.{both, asked_max, event_time_max, count_max, length_max}
use Rattle.rules.specs.Refusals.{pick}
use Rattle.grid.specs.Ticks.{rounded_up}
use Rattle.grid.specs.Bounds.{Length, FloorCap}
use Rattle.story.specs.declared.Title.{Title}
use Rattle.story.specs.Kept.{open_mode, is_shut, scheme_in, title_tick}
use Rattle.admissions.specs.declared.Waits.{Waits}
use Rattle.admissions.specs.declared.Stretch.{Stretch}
use Rattle.admissions.specs.declared.Tally.{Tally}
use Rattle.admissions.specs.Waits.{nobody, waited, row_max, wait_max}

-- a stretch whose numbers leave room for every sum
pub record Spaced (s : Stretch) : Type 0 where
  pub some : 0 < s.slot
  pub short : s.slot ≤ 2 ^ count_max * length_max
  pub since : s.opened ≤ s.start
  pub early : s.start ≤ event_time_max

-- the first admission of a stretch at or after a moment: a whole number of slots from the opening, and not before the start
unfoldable pub next_in : Stretch → ℕ → ℕ
next_in s x = s.opened + rounded_up (max x s.start - s.opened) s.slot * s.slot

pub record Reaches (s : Stretch) (x r : ℕ) : Type 0 where
  pub is : r ≡ next_in s x
  pub late : x ≤ r
  pub soon : r < max x s.start + s.slot

-- totals to which a row of waits can be added
pub record Room (w : Waits) : Type 0 where
  pub admitted_few : w.admitted < 2 ^ 32
  pub sum_low : w.sum < 2 ^ 62

-- those who come from `from` up to `upto` get in, and wait for the next admission
unfoldable pub gather : Stretch → ℕ → ℕ → ℕ → Waits → Waits
gather s from upto x w = pick (both (leb from x) (leb x upto)) (waited w (next_in s x - x)) w

-- the first n arrivals of a row
unfoldable pub gathered : Stretch → ℕ → ℕ → List ℕ → Waits → ℕ → Waits
gathered s from upto xs w zero = w
gathered s from upto xs w (suc n) = gather s from upto (get_or xs n 0) (gathered s from upto xs w n)

-- a row that is not too long, and totals of arrivals that were in it
pub record Few (n : ℕ) (w : Waits) : Type 0 where
  pub row_short : n ≤ row_max
  pub admitted_few : w.admitted ≤ row_max
  pub sum_low : w.sum ≤ row_max * wait_max

-- the numbers of an open title
pub record Playing (t : Title) : Type 0 where
  pub sized : Length t.film.length
  pub cut : FloorCap t.film.floor t.film.cap
  pub fit : t.count ≤ t.film.cap
  pub since : t.opened ≤ t.last
  pub early : t.last ≤ event_time_max

-- the stretch of a title from its latest event on
unfoldable pub stretch_of : Title → Stretch
stretch_of t =
    record
    { opened = t.opened; slot = (scheme_in t).slot_of t.count * title_tick t; start = t.last }

-- at an opening
abbrev pub fresh_tally : ℕ → Tally
fresh_tally τ = record { from = τ; waits = nobody }

-- the last admission of a stretch that ends at τ is a slot before the first one at or after τ; there may be none
unfoldable pub ended_in : Stretch → ℕ → List ℕ → Tally → Tally
ended_in s τ xs y =
    pick (ltb (next_in s τ) (s.start + s.slot)) y
    (record
    { from = next_in s τ - s.slot + 1; waits = gathered s y.from (next_in s τ - s.slot) xs y.waits (length xs) })

-- a title admits boxes while it is open and its doors are not held
unfoldable pub admitting : Title → Bool
admitting t = both (eqb t.mode open_mode) (not (is_shut t))

-- a title that admits nobody has no stretch
unfoldable pub settled : Title → ℕ → List ℕ → Tally → Tally
settled t τ xs y = pick (admitting t) (ended_in (stretch_of t) τ xs y) y

-- no event follows, and no arrival is later than 2^41
unfoldable pub all_settled : Title → List ℕ → Tally → Waits
all_settled t xs y =
    pick (admitting t) (gathered (stretch_of t) y.from asked_max xs y.waits (length xs)) y.waits
