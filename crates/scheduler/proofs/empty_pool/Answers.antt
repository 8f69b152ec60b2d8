-- `empty_pool` meets its contract: every slot has the blank title.
use Rattle.scheduler.proofs.empty_pool.Goals as goal

pub returns : goal.returns
returns c = simp c.blank_title-t.ensures
