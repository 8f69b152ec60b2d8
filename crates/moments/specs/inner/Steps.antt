-- The steps by which the earliest moment of a change is found: the releases of lanes, and the time from which on a change finds its lanes.
use Rattle.std.specs.Prelude.{ℕ, zero, suc, ◌≤◌, ◌<◌, min, ◌≡◌, true, false, leb, eqb}
use Rattle.rules.specs.Limits.{event_time_max}
use Rattle.rules.specs.Refusals.{pick}
use Rattle.story.specs.declared.Title.{Title}
use Rattle.story.specs.declared.State.{State}
use Rattle.story.specs.Kept.{absent_mode, title_at}
use Rattle.moments.specs.Searched.{release_moment}
use Rattle.moments.specs.Moments.{has_lanes}

-- the sooner of two moments, where the second lies after τ
unfoldable pub sooner_of : ℕ → ℕ → ℕ → ℕ
sooner_of τ a b = pick (leb b τ) a (min a b)

-- the soonest of a and the releases after τ of the lanes below n
unfoldable pub lanes_release : Title → ℕ → ℕ → ℕ → ℕ
lanes_release t τ a zero = a
lanes_release t τ a (suc n) = sooner_of τ (lanes_release t τ a n) (release_moment t n)

unfoldable pub title_release : Title → ℕ → ℕ → ℕ
title_release t τ a = pick (eqb t.mode absent_mode) a (lanes_release t τ a t.film.cap)

-- the next release after τ in the slots below n, past the clock where there is none
unfoldable pub release_in : State → ℕ → ℕ → ℕ
release_in s τ zero = suc event_time_max
release_in s τ (suc n) = title_release (title_at s n) τ (release_in s τ n)

-- r is the first time from τ on, up to the clock's last, at which a title's change to count k finds its lanes, or the one after them
pub record FindsLanes (s : State) (i k τ r : ℕ) : Type 0 where
  pub after : τ ≤ r
  pub high : r ≤ suc event_time_max
  pub finds : r ≤ event_time_max → has_lanes s i k r ≡ true
  pub none : (υ : ℕ) → τ ≤ υ → υ < r → has_lanes s i k υ ≡ false
