-- `console_reasons::lanes::put_missing` meets its contract: each presence has its words.
use borrow.Author.Tests.{eq-eqb, ne_eqb}
use Rattle.text.specs.Texts.{text}
use Rattle.console_reasons.specs.Lanes.{missing_text}
use Rattle.console_reasons.proofs.lanes.put_missing.Goals as goal

pub returns-then-presence-eq-NEVER_OPENED : goal.returns-then-presence-eq-NEVER_OPENED
unfolding missing_text text
returns-then-presence-eq-NEVER_OPENED c = rw (eq-eqb _ _ c.if-presence-eq-NEVER_OPENED.true) c.put.ensures

pub returns-then-presence-eq-GONE : goal.returns-then-presence-eq-GONE
unfolding missing_text text
returns-then-presence-eq-GONE c = rw (ne_eqb _ _ c.if-presence-eq-NEVER_OPENED.false, eq-eqb _ _ c.if-presence-eq-GONE.true) c.put-then-presence-eq-GONE.ensures

pub returns-else-presence-eq-GONE : goal.returns-else-presence-eq-GONE
unfolding missing_text text
returns-else-presence-eq-GONE c = rw (ne_eqb _ _ c.if-presence-eq-NEVER_OPENED.false, ne_eqb _ _ c.if-presence-eq-GONE.false) c.put-else-presence-eq-GONE.ensures
