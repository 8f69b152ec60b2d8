-- `console_desk::asks::ask` meets its contract: each question's own answer.
use borrow.Author.Tests.{eq-eqb, ne_eqb}
use Rattle.console_desk.specs.Asks.{ask_text}
use Rattle.console_desk.proofs.asks.ask.Goals as goal

pub returns-then-command-eq-LANE : goal.returns-then-command-eq-LANE
unfolding ask_text
returns-then-command-eq-LANE c = rw (eq-eqb _ _ c.if-command-eq-LANE.true) c.put_lane.ensures

pub returns-then-command-eq-STATUS : goal.returns-then-command-eq-STATUS
unfolding ask_text
returns-then-command-eq-STATUS c =
    rw (ne_eqb _ _ c.if-command-eq-LANE.false, eq-eqb _ _ c.if-command-eq-STATUS.true)
    c.put_status.ensures

pub returns-then-command-eq-SHARE : goal.returns-then-command-eq-SHARE
unfolding ask_text
returns-then-command-eq-SHARE c =
    rw (ne_eqb _ _ c.if-command-eq-LANE.false, ne_eqb _ _ c.if-command-eq-STATUS.false, eq-eqb _ _ c.if-command-eq-SHARE.true)
    c.put_share.ensures

pub returns-then-command-eq-PLANNER : goal.returns-then-command-eq-PLANNER
unfolding ask_text
returns-then-command-eq-PLANNER c =
    rw (
      ne_eqb _ _ c.if-command-eq-LANE.false,
      ne_eqb _ _ c.if-command-eq-STATUS.false,
      ne_eqb _ _ c.if-command-eq-SHARE.false,
      eq-eqb _ _ c.if-command-eq-PLANNER.true,
    )
    c.put_planner.ensures

pub returns-else-command-eq-PLANNER : goal.returns-else-command-eq-PLANNER
unfolding ask_text
returns-else-command-eq-PLANNER c =
    rw (
      ne_eqb _ _ c.if-command-eq-LANE.false,
      ne_eqb _ _ c.if-command-eq-STATUS.false,
      ne_eqb _ _ c.if-command-eq-SHARE.false,
      ne_eqb _ _ c.if-command-eq-PLANNER.false,
    )
    c.ask_box.ensures
