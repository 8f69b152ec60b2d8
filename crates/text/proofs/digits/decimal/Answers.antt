-- `text::digits::decimal` meets its contract: the digits of what is left, before those stored, are the digits of the
-- whole.
use Prim.Native.Nat.{ℕ, ◌+◌, ◌-◌, ◌%◌}
use mathlib.Core.Path.{◌≡◌, refl, sym, ◌∙◌, ap}
use native.Mathlib.Omega.{arith}
use lib.ListN.{drop, length-set}
use Rattle.text.specs.Digits.{decimal}
use Rattle.text.proofs.Printing.{digit_on, digit_last, digit_none}
use Rattle.text.proofs.digits.decimal.Goals as goal

pub loop-i-init : goal.loop-i-init
unfolding decimal
loop-i-init c = (refl, omega arith, refl)

pub returns-then-left-lt10 : goal.returns-then-left-lt10
returns-then-left-lt10 c =
    let l = c.loop-i in
    record {
      text = digit_last l.row l.i (l.i - 1) l.left (omega arith) (omega arith) c.if-left-lt10.true ∙ l.invariant.0;
      start = omega arith;
      size = length-set l.row (l.i - 1) (48 + l.left % 10) ∙ l.invariant.2;
    }

pub loop-i-preserved : goal.loop-i-preserved
loop-i-preserved c =
    let l = c.loop-i in (
      digit_on l.row l.i (l.i - 1) l.left (omega arith) (omega arith) c.if-left-lt10.false ∙ l.invariant.0,
      omega arith,
      length-set l.row (l.i - 1) (48 + l.left % 10) ∙ l.invariant.2,
    )

pub returns : goal.returns
returns c =
    let l = c.loop-i in
    let none : l.i ≡ 0 = omega arith in
    record {
      text = ap (λ (k : ℕ). drop k l.row) (sym none) ∙ digit_none l.row l.i l.left (omega arith) ∙ l.invariant.0;
      start = omega arith;
      size = l.invariant.2;
    }
