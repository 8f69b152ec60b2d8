-- What a lane question that is answered gives of the title: that it is there, within its limits, and its lane below the cap.
-- Rests on the laws of tests, of the refusals' order and of states within their limits.
use mathlib.Core.Path.{◌≡◌, refl}
use mathlib.Core.Bool.{true, not}
use Prim.Native.Nat.{ℕ, ◌≤◌, ◌<◌}
use native.Mathlib.Omega.{arith}
use borrow.Author.Tests.{leb-true, ltb-true, eqb-false, not-false, not-true}
use lib.Dec.{leb, eqb}
use Rattle.rules.specs.Limits.{both, id_max, lane_max, asked_max}
use Rattle.rules.specs.Refusals.{hits_of, numbered, outside_limits, not_there}
use Rattle.rules.proofs.Tests.{both_l, both_r}
use Rattle.rules.proofs.Refusals.{cleared}
use Rattle.story.specs.declared.State.{State}
use Rattle.story.specs.Kept.{absent_mode, title_at, state_ok, title_ok}
use Rattle.story.specs.Calls.{lane_held, lane_rules, lane_answer}
use Rattle.measures.specs.Readable.{Filmed, Sending}
use Rattle.measures.proofs.Within.{title_ok_lem, readable, sending}

module _ (s : State) (i l τ : ℕ) (none : lane_answer s i l τ ≡ 0) where
  lane_numbers : both (state_ok s) (both (leb i id_max) (both (leb l lane_max) (leb τ asked_max))) ≡ true
  unfolding lane_answer hits_of numbered
  lane_numbers = not-false _ (cleared (lane_rules s i l τ) refl none outside_limits)

  lane_there : lane_held (title_at s i) l τ ≡ true
  unfolding lane_answer hits_of numbered
  lane_there = not-false _ (cleared (lane_rules s i l τ) refl none not_there)

  pub lane_id : i ≤ id_max
  lane_id = let ok = lane_numbers in search (both_l, both_r, leb-true) depth 12

  pub lane_time : τ ≤ asked_max
  lane_time = let ok = lane_numbers in search (both_l, both_r, leb-true) depth 12

  pub lane_slot : (title_at s i).mode ≡ absent_mode → ⊥
  lane_slot e =
      eqb-false (title_at s i).mode absent_mode
      (not-true (eqb (title_at s i).mode absent_mode) (both_l _ _ lane_there)) e

  lane_title : title_ok (title_at s i) ≡ true
  lane_title = let l = lane_id in title_ok_lem s (both_l _ _ lane_numbers) i (omega arith)

  pub lane_film : Filmed (title_at s i).film
  lane_film = readable (title_at s i) lane_title lane_slot

  pub lane_sending : Sending (title_at s i)
  lane_sending = sending (title_at s i) lane_title lane_slot

  pub lane_capped : l < (title_at s i).film.cap
  lane_capped = ltb-true l (title_at s i).film.cap (both_l _ _ (both_r (not (eqb (title_at s i).mode absent_mode)) _ lane_there))
