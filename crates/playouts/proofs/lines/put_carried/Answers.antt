-- `playouts::lines::put_carried` meets its contract: a dash for nothing.
use borrow.Author.Tests.{eq-eqb, ne_eqb}
use Rattle.text.specs.Texts.{text}
use Rattle.playouts.specs.Lines.{carried_text}
use Rattle.playouts.proofs.lines.put_carried.Goals as goal

pub returns-then-number-eq-NOTHING_SEEN : goal.returns-then-number-eq-NOTHING_SEEN
unfolding carried_text text
returns-then-number-eq-NOTHING_SEEN c = rw (eq-eqb _ _ c.if-number-eq-NOTHING_SEEN.true) c.put.ensures

pub returns-else-number-eq-NOTHING_SEEN : goal.returns-else-number-eq-NOTHING_SEEN
unfolding carried_text text
returns-else-number-eq-NOTHING_SEEN c = rw (ne_eqb _ _ c.if-number-eq-NOTHING_SEEN.false) c.put_number.ensures
