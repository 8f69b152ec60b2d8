-- `numbers::get` meets its contract: a number of eight bytes by its halves, any other byte by byte.
-- Rests on the law of a number in two parts.
use native.Mathlib.Omega.{arith}
use Rattle.notice_fields.proofs.Digits.{number_split}
use Rattle.notice_fields.proofs.numbers.get.Goals as goal

pub returns-then-width-eq-WIDEST : goal.returns-then-width-eq-WIDEST
returns-then-width-eq-WIDEST c =
    let high = c.before in
    let tested = high.before in
    let a = tested.args in
    rw tested.if-width-eq-WIDEST.true (
      rw (high.gathered-high.ensures.0, c.gathered-low.ensures.0) (number_split a.bytes.now a.at 4 4),
      omega (arith, high.gathered-high.ensures.1, c.gathered-low.ensures.1),
    )
