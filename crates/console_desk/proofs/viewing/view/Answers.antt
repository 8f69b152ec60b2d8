-- `console_desk::viewing::view` meets its contract: each view's own answer.
use borrow.Author.Tests.{eq-eqb, ne_eqb}
use Rattle.console_desk.specs.Asks.{view_text}
use Rattle.console_desk.proofs.viewing.view.Goals as goal

pub returns-then-command-eq-TITLES : goal.returns-then-command-eq-TITLES
unfolding view_text
returns-then-command-eq-TITLES c = rw (eq-eqb _ _ c.if-command-eq-TITLES.true) c.put_titles.ensures

pub returns-then-command-eq-LANES : goal.returns-then-command-eq-LANES
unfolding view_text
returns-then-command-eq-LANES c =
    rw (ne_eqb _ _ c.if-command-eq-TITLES.false, eq-eqb _ _ c.if-command-eq-LANES.true)
    c.put_lanes.ensures

pub returns-then-command-eq-BALANCE : goal.returns-then-command-eq-BALANCE
unfolding view_text
returns-then-command-eq-BALANCE c =
    rw (ne_eqb _ _ c.if-command-eq-TITLES.false, ne_eqb _ _ c.if-command-eq-LANES.false, eq-eqb _ _ c.if-command-eq-BALANCE.true)
    c.put_balance.ensures

pub returns-else-command-eq-BALANCE : goal.returns-else-command-eq-BALANCE
unfolding view_text
returns-else-command-eq-BALANCE c =
    rw (
      ne_eqb _ _ c.if-command-eq-TITLES.false,
      ne_eqb _ _ c.if-command-eq-LANES.false,
      ne_eqb _ _ c.if-command-eq-BALANCE.false,
      ← c.event_asked.ensures,
    )
    c.put_when.ensures
