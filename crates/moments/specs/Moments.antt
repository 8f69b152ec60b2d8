-- When a title can change to a count (02, 11), said of every time: its rules permit the change then, and for a raise the
-- lanes are free; and the earliest such time.
use Rattle.std.specs.Prelude.{ℕ, suc, ◌+◌, ◌-◌, ◌≤◌, ◌<◌, ◌≡◌, Bool, true, false, not, leb}
use Rattle.rules.specs.Limits.{both, either, event_time_max}
use Rattle.rules.specs.Search.{first}
use Rattle.story.specs.declared.State.{State}
use Rattle.story.specs.declared.Act.TheVariants.{Changes}
use Rattle.story.specs.Kept.{title_at}
use Rattle.story.specs.Orders.{Tests}
use Rattle.story.specs.Calls.{tests_in}

-- none of 7, 16 and 8 hits
abbrev pub is_permitted_by : Tests → Bool
is_permitted_by t = both (not t.second) (both (not t.soon) (not t.off))

unfoldable pub is_permitted : State → ℕ → ℕ → ℕ → Bool
is_permitted s i k τ = is_permitted_by (tests_in s i τ (Changes k))

-- a drop needs no lanes; a raise finds them where the pool has as many as would be held
unfoldable pub has_lanes : State → ℕ → ℕ → ℕ → Bool
has_lanes s i k τ = either (leb k (title_at s i).count) (not (tests_in s i τ (Changes k)).full)

-- the change of title i to count k may come at τ
unfoldable pub is_due : State → ℕ → ℕ → ℕ → Bool
is_due s i k τ = both (is_permitted s i k τ) (has_lanes s i k τ)

-- r is the first time from τ on at which it may, over all times
pub record FirstDue (s : State) (i k τ r : ℕ) : Type 0 where
  pub after : τ ≤ r
  pub due : is_due s i k r ≡ true
  pub no_earlier : (υ : ℕ) → τ ≤ υ → υ < r → is_due s i k υ ≡ false

-- the earliest time from τ on that passes a test, among those up to the clock's last; past the clock where none does
unfoldable pub earliest : (ℕ → Bool) → ℕ → ℕ
earliest p τ = τ + first (λ o. p (τ + o)) (suc event_time_max - τ)
