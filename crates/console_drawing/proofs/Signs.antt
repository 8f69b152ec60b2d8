-- What a sign says of its lane: it is full or hatched wherever the lane question is answered with a cell, and free where the lane is not
-- held. Rests on the order of the question's refusals.
use Prim.Native.Nat.{ℕ}
use mathlib.Core.Path.{◌≡◌, refl, sym}
use mathlib.Core.Bool.{Bool, true, false, not, false≢true}
use borrow.Author.Tests.{not-false}
use lib.Dec.{eqb, ltb}
use Rattle.rules.specs.Refusals.{pick, hits_of, numbered, done, not_there}
use Rattle.rules.proofs.Tests.{both_r}
use Rattle.rules.proofs.Refusals.{cleared}
use Rattle.story.specs.declared.Title.{Title}
use Rattle.story.specs.declared.State.{State}
use Rattle.story.specs.Kept.{absent_mode, title_at, tick_at, ruling, kept_held}
use Rattle.story.specs.Calls.{lane_held, lane_rules, lane_answer}
use Rattle.console_drawing.specs.Pictures.{active_sign, sending_sign, free_sign, sign_text}

module _ (s : State) (i l τ : ℕ) (answered : lane_answer s i l τ ≡ done) where
  is_held : lane_held (title_at s i) l τ ≡ true
  unfolding lane_answer hits_of numbered
  is_held = not-false _ (cleared (lane_rules s i l τ) refl answered not_there)

  pub answered_sign : sign_text (title_at s i) l (tick_at (title_at s i) τ)
      ≡ pick (ltb l (ruling (title_at s i))) active_sign sending_sign
  unfolding sign_text
  answered_sign =
      let t : Title = title_at s i in
      let held : kept_held t l (tick_at t τ) ≡ true =
      both_r (ltb l t.film.cap) (kept_held t l (tick_at t τ)) (both_r (not (eqb t.mode absent_mode)) _ is_held) in
      rw held

-- a lane that is not held is not active
not_active : (t : Title) (l n : ℕ) (b : Bool) → ltb l (ruling t) ≡ b → kept_held t l n ≡ false → b ≡ false
unfolding kept_held
not_active t l n true e free = absurd (false≢true (sym (rw e at free)))
not_active t l n false e free = refl

pub free_sign_lem : (t : Title) (l n : ℕ) → kept_held t l n ≡ false → sign_text t l n ≡ free_sign
unfolding sign_text
free_sign_lem t l n free = rw (not_active t l n (ltb l (ruling t)) refl free, free)
