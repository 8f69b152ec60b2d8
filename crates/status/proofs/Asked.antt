-- What status that is answered gives: rows of one length, and numbers within their limits.
-- Rests on the laws of tests and of the refusals' order.
use mathlib.Core.Path.{◌≡◌, refl}
use mathlib.Core.Bool.{true}
use mathlib.Core.List.{List}
use Prim.Native.Nat.{ℕ}
use lib.Dec.{eqb}
use lib.ListN.{length}
use borrow.Author.Tests.{eqb-true, not-false}
use Rattle.rules.specs.Limits.{both}
use Rattle.rules.proofs.Tests.{both_l, both_r}
use Rattle.story.specs.declared.State.{State}
use Rattle.story.specs.Kept.{state_ok}
use Rattle.story.specs.Calls.{status_rules, status_answer}
use Rattle.questions.specs.Asked.{asked_answer}
use Rattle.rules.specs.Refusals.{wrong_rows}
use Rattle.rules.proofs.Refusals.{hits_of, numbered, cleared, behind_clear}
use Rattle.questions.proofs.Asked.{asked_state, asked_others}
use Rattle.status.specs.Rows.{ids_ok}

module _ (s : State) (τ : ℕ) (ids : List ℕ) (m h d : ℕ) (none : status_answer s τ ids m h d ≡ 0) where
  rows : both (eqb m (length ids)) (both (eqb h (length ids)) (eqb d (length ids))) ≡ true
  unfolding status_answer hits_of numbered
  rows = not-false _ (cleared (status_rules s τ ids m h d) refl none wrong_rows)

  pub count_row_lem : m ≡ length ids
  count_row_lem = eqb-true m (length ids) (both_l (eqb m (length ids)) (both (eqb h (length ids)) (eqb d (length ids))) rows)

  others : both (eqb h (length ids)) (eqb d (length ids)) ≡ true
  others = both_r (eqb m (length ids)) (both (eqb h (length ids)) (eqb d (length ids))) rows

  pub held_row : h ≡ length ids
  held_row = eqb-true h (length ids) (both_l (eqb h (length ids)) (eqb d (length ids)) others)

  pub mark_row : d ≡ length ids
  mark_row = eqb-true d (length ids) (both_r (eqb h (length ids)) (eqb d (length ids)) others)

  rest : asked_answer s τ (ids_ok ids) ≡ 0
  unfolding status_answer asked_answer ids_ok numbered
  rest = behind_clear wrong_rows (status_rules s τ ids m h d) refl none

  pub rows_state : state_ok s ≡ true
  rows_state = asked_state s τ (ids_ok ids) rest

  pub rows_ids : ids_ok ids ≡ true
  rows_ids = asked_others s τ (ids_ok ids) rest
