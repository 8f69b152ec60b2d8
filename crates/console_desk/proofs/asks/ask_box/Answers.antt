-- `console_desk::asks::ask_box` meets its contract: each question's own answer.
use mathlib.Core.Path.{sym, ◌∙◌}
use borrow.Author.Tests.{eq-eqb, ne_eqb}
use Rattle.console_desk.specs.Asks.{box_ask_text}
use Rattle.console_desk.proofs.asks.ask_box.Goals as goal

pub returns-then-command-eq-ROM_LANE : goal.returns-then-command-eq-ROM_LANE
unfolding box_ask_text
returns-then-command-eq-ROM_LANE c = rw (eq-eqb _ _ c.if-command-eq-ROM_LANE.true) c.put_rom_lane.ensures

pub returns-then-asks_plan : goal.returns-then-asks_plan
unfolding box_ask_text
returns-then-asks_plan c =
    rw (ne_eqb _ _ c.if-command-eq-ROM_LANE.false, sym c.asks_plan.ensures ∙ c.if-asks_plan.true)
    c.put_plan.ensures

pub returns-then-asks_view : goal.returns-then-asks_view
unfolding box_ask_text
returns-then-asks_view c =
    rw (
      ne_eqb _ _ c.if-command-eq-ROM_LANE.false,
      sym c.asks_plan.ensures ∙ c.if-asks_plan.false,
      sym c.asks_view.ensures ∙ c.if-asks_view.true,
    )
    c.view.ensures

pub returns-else-asks_view : goal.returns-else-asks_view
unfolding box_ask_text
returns-else-asks_view c =
    rw (
      ne_eqb _ _ c.if-command-eq-ROM_LANE.false,
      sym c.asks_plan.ensures ∙ c.if-asks_plan.false,
      sym c.asks_view.ensures ∙ c.if-asks_view.false,
    )
    c.tell.ensures
