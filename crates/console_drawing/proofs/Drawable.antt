-- A title that is to be drawn can be read: its id, its film and its state's last time are within their limits. Rests on the laws of tests and
-- of states within their limits.
use Prim.Native.Nat.{ℕ, ◌≤◌}
use mathlib.Core.Path.{◌≡◌}
use mathlib.Core.Bool.{true, not}
use native.Mathlib.Omega.{arith}
use borrow.Author.Tests.{leb-true, eqb-false, not-true}
use lib.Dec.{leb, eqb}
use Rattle.rules.specs.Limits.{id_max, asked_max}
use Rattle.rules.proofs.Tests.{both_l, both_r}
use Rattle.story.specs.declared.State.{State}
use Rattle.story.specs.Kept.{absent_mode, title_at, state_ok}
use Rattle.measures.specs.Readable.{Filmed}
use Rattle.measures.proofs.Within.{title_ok_lem, readable}
use Rattle.console_drawing.specs.Pictures.{is_drawable}

module _ (s : State) (i : ℕ) (ok : is_drawable s i ≡ true) where
  pub drawable_id : i ≤ id_max
  unfolding is_drawable
  drawable_id = leb-true _ _ (both_l _ _ ok)

  in_limits_lem : state_ok s ≡ true
  unfolding is_drawable
  in_limits_lem = both_l (state_ok s) _ (both_r (leb i id_max) _ ok)

  pub drawable_last : s.last ≤ asked_max
  unfolding state_ok
  drawable_last = let l = in_limits_lem in search (both_l, both_r, leb-true) depth 12

  pub drawable_film : Filmed (title_at s i).film
  unfolding is_drawable
  drawable_film =
      let id = drawable_id in
      let there : not (eqb (title_at s i).mode absent_mode) ≡ true = both_r (state_ok s) _ (both_r (leb i id_max) _ ok) in
      readable (title_at s i) (title_ok_lem s in_limits_lem i (omega arith)) (eqb-false _ _ (not-true _ there))
