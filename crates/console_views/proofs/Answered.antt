-- What a question of a title's lanes that is answered gives: numbers within their limits, and a title that is there and can
-- be read. Rests on the laws of tests, of the refusals' order and of states within their limits.
use mathlib.Core.Path.{◌≡◌, refl}
use mathlib.Core.Bool.{true}
use Prim.Native.Nat.{ℕ, ◌≤◌}
use native.Mathlib.Omega.{arith}
use borrow.Author.Tests.{leb-true, ltb-false, not-false}
use lib.Dec.{leb}
use Rattle.rules.specs.Limits.{both, within, id_max, asked_max}
use Rattle.rules.specs.Refusals.{hits_of, numbered, outside_limits, too_early, not_there}
use Rattle.rules.proofs.Tests.{both_l, both_r}
use Rattle.rules.proofs.Refusals.{cleared}
use Rattle.story.specs.declared.State.{State}
use Rattle.story.specs.Kept.{title_at, state_ok, is_there}
use Rattle.measures.specs.Readable.{Filmed}
use Rattle.measures.proofs.Within.{title_ok_lem}
use Rattle.title_verdicts.proofs.Stands.{there_changeable}
use Rattle.console_limits.specs.Quantities.{ticks_min, ticks_most}
use Rattle.console_views.specs.Lanes.{lanes_rules, lanes_answer}

module _ (s : State) (i τ n : ℕ) (none : lanes_answer s i τ n ≡ 0) where
  numbers : both (state_ok s) (both (leb i id_max) (both (leb τ asked_max) (within ticks_min ticks_most n))) ≡ true
  unfolding lanes_answer hits_of numbered
  numbers = not-false _ (cleared (lanes_rules s i τ n) refl none outside_limits)

  pub asked_there : is_there (title_at s i) τ ≡ true
  unfolding lanes_answer hits_of numbered
  asked_there = not-false _ (cleared (lanes_rules s i τ n) refl none not_there)

  pub asked_late : (title_at s i).last ≤ τ
  unfolding lanes_answer hits_of numbered
  asked_late = ltb-false _ _ (cleared (lanes_rules s i τ n) refl none too_early)

  pub asked_id : i ≤ id_max
  asked_id = let ok = numbers in search (both_l, both_r, leb-true) depth 12

  pub asked_time : τ ≤ asked_max
  asked_time = let ok = numbers in search (both_l, both_r, leb-true) depth 12

  pub asked_ticks : n ≤ ticks_most
  asked_ticks = let ok = numbers in search (both_l, both_r, leb-true) depth 12

  pub asked_film : Filmed (title_at s i).film
  asked_film =
      let id = asked_id in
      (there_changeable (title_at s i) τ (title_ok_lem s (both_l _ _ numbers) i (omega arith)) asked_there).owing.film
