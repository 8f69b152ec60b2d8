-- `headend_desk::has_room` meets its contract: each test that fails says that the notice or the sum does not fit.
use native.Mathlib.Omega.{arith}
use Rattle.headend_desk.proofs.Room.{no_notices, no_sums, by_sums}
use Rattle.headend_desk.proofs.has_room.Goals as goal

pub returns-then-notices-noticed : goal.returns-then-notices-noticed
returns-then-notices-noticed c = let x = c.args in no_notices x.noticed x.notices x.summed x.sums (omega arith)

pub returns-then-sums-summed : goal.returns-then-sums-summed
returns-then-sums-summed c = let x = c.args in no_sums x.noticed x.notices x.summed x.sums (omega arith)

pub returns-then-notices-noticed-lt-LONGEST_NOTICE : goal.returns-then-notices-noticed-lt-LONGEST_NOTICE
returns-then-notices-noticed-lt-LONGEST_NOTICE c = let x = c.args in no_notices x.noticed x.notices x.summed x.sums (omega arith)

pub returns : goal.returns
returns c = let x = c.args in by_sums x.noticed x.notices x.summed x.sums (omega arith) (omega arith)
