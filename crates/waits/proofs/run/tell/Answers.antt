-- `waits::run::tell` is safe and ends: the row has room for every number that was taken.
use mathlib.Core.Path.{sym}
use lib.Seq.{length-take-le}
use Rattle.waits.proofs.Taking.{taken_within}
use Rattle.waits.proofs.run.tell.Goals as goal

pub slice_bounds-row-end : goal.slice_bounds-row-end
slice_bounds-row-end c = taken_within _ _ _ _ c.take_text-scan.ensures

pub slice_bounds-report_of-end : goal.slice_bounds-report_of-end
slice_bounds-report_of-end c = sym (length-take-le _ _ (taken_within _ _ _ _ c.take_text-scan.ensures))
