-- What a question of all titles that is answered gives: numbers within their limits, and a time no earlier than the last
-- event. Rests on the laws of tests and of the refusals' order.
use mathlib.Core.Path.{◌≡◌, refl}
use mathlib.Core.Bool.{Bool, true, false}
use Prim.Native.Nat.{ℕ}
use lib.Dec.{leb, ltb}
use borrow.Author.Tests.{not-false}
use Rattle.rules.specs.Limits.{both, asked_max}
use Rattle.rules.proofs.Tests.{both_l, both_r}
use Rattle.story.specs.declared.State.{State}
use Rattle.story.specs.Kept.{state_ok}
use Rattle.questions.specs.Asked.{asked_rules, asked_answer}
use Rattle.rules.specs.Refusals.{outside_limits, too_early}
use Rattle.rules.proofs.Refusals.{hits_of, numbered, cleared}

module _ (s : State) (τ : ℕ) (others : Bool) (none : asked_answer s τ others ≡ 0) where
  numbers : both (state_ok s) (both (leb τ asked_max) others) ≡ true
  unfolding asked_answer hits_of numbered
  numbers = not-false _ (cleared (asked_rules s τ others) refl none outside_limits)

  pub asked_state : state_ok s ≡ true
  asked_state = both_l (state_ok s) (both (leb τ asked_max) others) numbers

  asked_rest : both (leb τ asked_max) others ≡ true
  asked_rest = both_r (state_ok s) (both (leb τ asked_max) others) numbers

  pub asked_time : leb τ asked_max ≡ true
  asked_time = both_l (leb τ asked_max) others asked_rest

  pub asked_others : others ≡ true
  asked_others = both_r (leb τ asked_max) others asked_rest

  pub asked_late : ltb τ s.last ≡ false
  unfolding asked_answer hits_of numbered
  asked_late = cleared (asked_rules s τ others) refl none too_early
