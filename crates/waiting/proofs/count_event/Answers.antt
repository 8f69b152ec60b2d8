-- `waiting::count_event` meets its contract, by whether the title was open.
use borrow.Author.Tests.{eq-eqb, ne_eqb}
use Rattle.waiting.proofs.count_event.Goals as goal

pub returns-then-mode-eq-OPEN : goal.returns-then-mode-eq-OPEN
returns-then-mode-eq-OPEN c = rw (eq-eqb _ 1 c.if-mode-eq-OPEN.true) c.ended.ensures

pub returns : goal.returns
returns c = rw (ne_eqb _ 1 c.if-mode-eq-OPEN.false) c.opened.ensures
