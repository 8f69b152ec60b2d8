-- Laws of answers: a refusal's number is no 0, and of tests in two parts the first that refuses answers, else the second does.
-- Rest on the laws of the refusals' order.
use Rattle.std.proofs.Common.{◌≡◌, refl, ℕ, true, List, ◌++◌, Result, Ok, Err}
use Rattle.std.specs.Result.{is_ok, IsErrAnd}
use Rattle.std.proofs.lemmas.Result.{err_from_is_err_and}
use Rattle.rules.specs.declared.answers.Refusal.{Refusal}
use Rattle.rules.specs.declared.answers.Refusal.TheVariants as refusal
use Rattle.rules.specs.Refusals.{Rule, first_hit, numbered}
use Rattle.rules.specs.Told.{refusal_number, told}
use Rattle.rules.proofs.Refusals.{then_late, then_first}

pub some_number : (r : Refusal) → refusal_number r ≡ 0 → ⊥
some_number refusal.OutsideLimits h = cc
some_number refusal.TooEarly h = cc
some_number refusal.NotThere h = cc
some_number refusal.IdTaken h = cc
some_number refusal.IsClosing h = cc
some_number refusal.Unchanged h = cc
some_number refusal.SecondEvent h = cc
some_number refusal.NotAtSlot h = cc
some_number refusal.NoLanes h = cc
some_number refusal.WrongRows h = cc
some_number refusal.Malformed h = cc
some_number refusal.OutOfTurn h = cc
some_number refusal.BelowFloor h = cc
some_number refusal.AboveCap h = cc
some_number refusal.FloorAboveCap h = cc
some_number refusal.TooSoon h = cc
some_number refusal.DoorsUnchanged h = cc
some_number refusal.PastClock h = cc
some_number refusal.IsSteady h = cc

module _ (xs ys : List Rule) (counts : numbered xs ≡ true) where
  -- where the first part refuses, so does the whole, with the same
  pub refused_first : (r : Refusal) → refusal_number r ≡ first_hit xs → refusal_number r ≡ first_hit (xs ++ ys)
  refused_first r is = then_first xs ys (refusal_number r) counts is (some_number r)

  -- else the second part answers
  pub passed_first : (late : ℕ) → 0 ≡ first_hit xs → late ≡ first_hit ys → late ≡ first_hit (xs ++ ys)
  passed_first late none is-late = then_late xs ys 0 counts none late refl is-late

-- what passed is told as done,
pub told_ok : {A : Type 0} (r : Result A Refusal) → true ≡ is_ok r → told r ≡ 0
told_ok (Ok x) h = refl
told_ok (Err e) h = cc

-- and what a `?` passes on is told as the refusal that it met
pub told_err : {A : Type 0} (r : Result A Refusal) (e : Refusal) → IsErrAnd r (λ y. y ≡ e) → told r ≡ refusal_number e
told_err r e h = let p = err_from_is_err_and r h in rw (p.1, p.2) refl
