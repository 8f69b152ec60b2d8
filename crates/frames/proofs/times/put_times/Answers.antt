-- `frames::times::put_times` meets its contract: time by time.
use Rattle.text.proofs.Pages.{nothing}
use Rattle.frames.specs.Times.{times_text}
use Rattle.frames.proofs.Across.{times_next}
use Rattle.frames.proofs.times.put_times.Goals as goal

pub loop-n-init : goal.loop-n-init
unfolding times_text
loop-n-init c = nothing

pub loop-n-preserved : goal.loop-n-preserved
loop-n-preserved c = times_next _ _ _ _ _ c.loop-n.invariant c.round_step-step.ensures.0 c.min.ensures c.put_time.ensures
