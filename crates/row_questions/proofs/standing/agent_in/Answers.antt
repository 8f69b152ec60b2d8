-- `agent_in` meets its contract: the test of the length is the definition's.
use borrow.Author.Tests.{eq-eqb, ne_eqb}
use Rattle.row_questions.specs.Questions.{agent_in}
use Rattle.row_questions.proofs.standing.agent_in.Goals as goal

pub returns-then-row-eq-ROW_LENGTH : goal.returns-then-row-eq-ROW_LENGTH
unfolding agent_in
returns-then-row-eq-ROW_LENGTH c = rw (eq-eqb _ _ c.if-row-eq-ROW_LENGTH.true) c.long_agent.ensures

pub returns : goal.returns
unfolding agent_in
returns c = rw (ne_eqb _ _ c.if-row-eq-ROW_LENGTH.false) c.fresh_agent.ensures.1
