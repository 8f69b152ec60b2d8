-- What is known of a title that is there, in a state within its limits. Rests on the laws of such states.
use mathlib.Core.Path.{◌≡◌}
use mathlib.Core.Bool.{true}
use Prim.Native.Nat.{ℕ, ◌≤◌, ◌<◌}
use Rattle.rules.specs.Limits.{asked_max, titles_max}
use Rattle.story.specs.declared.Title.{Title}
use Rattle.story.specs.declared.State.{State}
use Rattle.story.specs.Kept.{title_at, state_ok, is_there}
use Rattle.measures.proofs.Within.{title_ok_lem, count_fit, tuned_high}
use Rattle.title_verdicts.proofs.Stands.{in_slot}
use Rattle.moments.specs.Searched.{Timed}
use Rattle.moments.proofs.Due.{timed}

-- its releases can be told, its count is no higher than its cap, and its latest opening or change is within its limit
pub record Standing (t : Title) : Type 0 where
  pub timed : Timed t
  pub ruled : t.count ≤ t.film.cap
  pub tuned : t.tuned ≤ asked_max

pub stands : (s : State) → state_ok s ≡ true → (i : ℕ) → i < titles_max → (τ : ℕ) → is_there (title_at s i) τ ≡ true → Standing (title_at s i)
stands s ok i b τ there =
    let fine = title_ok_lem s ok i b in
    let slot = in_slot (title_at s i) τ there in
    record {
      timed = timed (title_at s i) fine slot;
      ruled = count_fit (title_at s i) fine slot;
      tuned = tuned_high (title_at s i) fine;
    }
