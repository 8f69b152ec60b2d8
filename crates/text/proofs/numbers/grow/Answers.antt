-- `text::numbers::grow` meets its contract: the test before the product decides whether the grown number passes the
-- top.
use Rattle.text.proofs.Spelling.{grow_over, grow_in}
use Rattle.text.proofs.numbers.grow.Goals as goal

pub returns-then-d-value : goal.returns-then-d-value
returns-then-d-value c =
    grow_over _ _ _ c.digit_of-d.ensures.0 c.digit_of-d.ensures.1 c.if-d-value.true

pub returns : goal.returns
returns c =
    grow_in _ _ _ c.digit_of-d.ensures.0 c.digit_of-d.ensures.1 c.if-d-value.false
