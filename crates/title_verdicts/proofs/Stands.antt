-- What a title within its limits gives, and what it gives besides once it stands: that it is there, and so can be changed.
-- Rests on the laws of the refusals' order and of titles within their limits.
use mathlib.Core.Path.{◌≡◌, refl}
use mathlib.Core.Bool.{true, false≢true}
use Prim.Native.Nat.{ℕ}
use borrow.Author.Tests.{not-false}
use Rattle.rules.specs.Refusals.{first_hit, hits_of, numbered, not_there}
use Rattle.rules.proofs.Refusals.{cleared}
use Rattle.story.specs.declared.Title.{Title}
use Rattle.story.specs.Kept.{absent_mode, title_ok, title_held, is_there}
use Rattle.measures.specs.Readable.{Changeable}
use Rattle.measures.proofs.Within.{changeable}
use Rattle.title_verdicts.specs.Titled.{standing_rules}

-- a title that is there is in its slot
pub in_slot : (t : Title) (τ : ℕ) → is_there t τ ≡ true → t.mode ≡ absent_mode → ⊥
unfolding is_there title_held
in_slot t τ there none = false≢true (rw none at there)

pub there_changeable : (t : Title) (τ : ℕ) → title_ok t ≡ true → is_there t τ ≡ true → Changeable t
there_changeable t τ ok there = changeable t ok (in_slot t τ there)

pub standing_changeable : (t : Title) (τ : ℕ) → title_ok t ≡ true → first_hit (standing_rules t τ) ≡ 0 → Changeable t
unfolding hits_of numbered
standing_changeable t τ ok h = there_changeable t τ ok (not-false (is_there t τ) (cleared (standing_rules t τ) refl h not_there))
