-- `air::run::tell` is safe and ends: the row has room for every number that was taken.
use mathlib.Core.Path.{sym}
use lib.Seq.{length-take-le}
use Rattle.air_record.proofs.Reading.{taken_within}
use Rattle.air.proofs.run.tell.Goals as goal

pub slice_bounds-record-end : goal.slice_bounds-record-end
slice_bounds-record-end c = taken_within _ _ _ _ c.take_text-scan.ensures

pub slice_bounds-show-end : goal.slice_bounds-show-end
slice_bounds-show-end c = sym (length-take-le _ _ (taken_within _ _ _ _ c.take_text-scan.ensures))

pub slice_bounds-record-end-then-scan-eq-SOUND : goal.slice_bounds-record-end-then-scan-eq-SOUND
slice_bounds-record-end-then-scan-eq-SOUND c = taken_within _ _ _ _ c.take_text-scan.ensures

pub slice_bounds-complain_beside-end : goal.slice_bounds-complain_beside-end
slice_bounds-complain_beside-end c = sym (length-take-le _ _ (taken_within _ _ _ _ c.take_text-scan.ensures))
