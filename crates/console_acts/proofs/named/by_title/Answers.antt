-- `console_acts::named::by_title` meets its contract: the moment after 16, else the numbers of the id's slot, none past the
-- last slot.
use borrow.Author.Tests.{le-leb, lt-leb, eq-eqb, ne_eqb}
use Rattle.console_acts.proofs.named.by_title.Goals as goal

pub returns-then-answer-eq-TOO_SOON : goal.returns-then-answer-eq-TOO_SOON
returns-then-answer-eq-TOO_SOON c = rw (eq-eqb _ _ c.if-answer-eq-TOO_SOON.true) c.settled.ensures

pub returns-then-id-le-ID_MAX : goal.returns-then-id-le-ID_MAX
returns-then-id-le-ID_MAX c =
    let at-if2 = c in
    rw (ne_eqb _ _ at-if2.if-answer-eq-TOO_SOON.false, le-leb _ _ at-if2.if-id-le-ID_MAX.true) c.missed.ensures

pub returns : goal.returns
returns c = rw (ne_eqb _ _ c.if-answer-eq-TOO_SOON.false, lt-leb _ _ c.if-id-le-ID_MAX.false)
