-- When an id comes free: never while its title is open, at once where it has none, and once the last lane of a closing one is released.
-- Rests on the laws of the earliest time.
use mathlib.Core.Path.{◌≡◌, refl, sym, ap, ◌∙◌}
use mathlib.Core.Bool.{true, false, not}
use Prim.Native.Nat.{ℕ, suc, ◌≤◌}
use lib.Dec.{ltb}
use borrow.Author.Tests.{leb-true, ne_eqb}
use Rattle.rules.proofs.Tests.{both_l, both_r}
use Rattle.rules.specs.Limits.{event_time_max}
use Rattle.story.specs.declared.Title.{Title}
use Rattle.story.specs.declared.State.{State}
use Rattle.story.specs.Kept.{absent_mode, open_mode, title_at, title_held, is_there}
use Rattle.story.specs.Calls.{event_ok}
use Rattle.moments.specs.Searched.{Goes}
use Rattle.moments.proofs.Earliest.{lessens_first, first_now, first_never}
use Rattle.outlook.specs.Outlook.{id_free_from}

pub there_open : (t : Title) (υ : ℕ) → t.mode ≡ open_mode → is_there t υ ≡ true
unfolding is_there
there_open t υ o = rw o refl

there_absent : (t : Title) (υ : ℕ) → t.mode ≡ absent_mode → is_there t υ ≡ false
unfolding is_there title_held
there_absent t υ none = rw none refl

there_closing : (t : Title) (υ : ℕ) → (t.mode ≡ open_mode → ⊥) → is_there t υ ≡ ltb 0 (title_held t υ)
unfolding is_there
there_closing t υ other = rw (ne_eqb t.mode open_mode other) refl

-- a time within its limits is on the clock
pub on_clock : (s : State) (i τ : ℕ) → event_ok s i τ ≡ true → τ ≤ event_time_max
on_clock s i τ ok = search (both_l, both_r, leb-true)

pub free_outside : (s : State) (i τ : ℕ) → event_ok s i τ ≡ false → 0 ≡ id_free_from s i τ
unfolding id_free_from
free_outside s i τ out = rw out refl

module _ (s : State) (i τ : ℕ) (fits : event_ok s i τ ≡ true) (within : τ ≤ suc event_time_max) (t : Title) (is : t ≡ title_at s i) where
  same_mode : t.mode ≡ (title_at s i).mode
  same_mode = ap (λ (x : Title). x.mode) is

  pub free_open : t.mode ≡ open_mode → suc event_time_max ≡ id_free_from s i τ
  unfolding id_free_from
  free_open o =
      rw fits
      (first_never (λ υ. not (is_there (title_at s i) υ)) τ within
      (λ υ. ap not (there_open (title_at s i) υ (sym same_mode ∙ o))))

  pub free_absent : t.mode ≡ absent_mode → τ ≡ id_free_from s i τ
  unfolding id_free_from
  free_absent none =
      rw fits
      (first_now (λ υ. not (is_there (title_at s i) υ)) τ within
      (ap not (there_absent (title_at s i) τ (sym same_mode ∙ none))))

  pub free_gone : (t.mode ≡ open_mode → ⊥) → {r : ℕ} → Goes t τ r → r ≡ id_free_from s i τ
  unfolding id_free_from
  free_gone other {r} g =
      rw fits
      (lessens_first (title_held t) 0 (λ υ. not (is_there (title_at s i) υ)) (λ υ. rw (← is) (ap not (there_closing t υ other))) g)
