-- `held` meets its contract: a state within its limits is readable.
use mathlib.Core.Path.{sym}
use Rattle.measures.proofs.Within.{all_readable}
use Rattle.questions.proofs.Asked.{asked_state}
use Rattle.scheduler.proofs.held.Goals as goal

pub lanes_held-requires : goal.lanes_held-requires
lanes_held-requires c = let a = c.args in all_readable a.s (asked_state a.s a.time _ (sym c.in-Ok.ensures))
