-- `console_boxes::plan::place_of` meets its contract: the test is that of the definition.
use native.Mathlib.Omega.{arith}
use borrow.Author.Tests.{eq-eqb, ne_eqb}
use Rattle.console_boxes.specs.Plan.{place_of}
use Rattle.console_boxes.proofs.plan.place_of.Goals as goal

pub returns-then-command-eq-SKIP_PLAN : goal.returns-then-command-eq-SKIP_PLAN
unfolding place_of
returns-then-command-eq-SKIP_PLAN c = (rw (eq-eqb _ _ c.if-command-eq-SKIP_PLAN.true), omega arith)

pub returns : goal.returns
unfolding place_of
returns c = (rw (ne_eqb _ _ c.if-command-eq-SKIP_PLAN.false), omega arith)
