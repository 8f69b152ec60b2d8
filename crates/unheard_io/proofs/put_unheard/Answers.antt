-- `unheard_io::put_unheard` meets its contract: a line where some notice did not count.
use Rattle.unheard_io.proofs.Line.{says_nothing, says_line}
use Rattle.unheard_io.proofs.put_unheard.Goals as goal

pub returns-then-tally-gt0 : goal.returns-then-tally-gt0
returns-then-tally-gt0 c = says_line _ _ _ c.unheard_in.ensures _ _ c.if-tally-gt0.true c.put_missed.ensures

pub returns-else-tally-gt0 : goal.returns-else-tally-gt0
returns-else-tally-gt0 c = says_nothing _ _ _ c.unheard_in.ensures _ c.if-tally-gt0.false
