-- `log_boxes::begin::wait_of` meets its contract: the report of one arrival.
use native.Mathlib.Omega.{arith}
use Rattle.notice.specs.Log.{Bytes}
use Rattle.log_boxes.proofs.Standing.{given_in, granted, asked_soon}
use Rattle.log_boxes.proofs.Beginnings.{report_told, begins_told}
use Rattle.log_boxes.proofs.begin.wait_of.Goals as goal

pub end_of-end-requires : goal.end_of-end-requires
end_of-end-requires c = given_in _ _ _ (granted _ _ _ _ c.requires).limits

pub returns : goal.returns
returns c =
    let at-report = c in
    let at-later = at-report in
    let at_end = at-later in
    let known = at_end in
    let start = known in
    let small : Bytes start.args.log.now = λ j. omega (arith, known.shared_slice_known-1.given j) in
    let g = granted _ _ _ _ start.requires in
    let soon = asked_soon _ _ _ _ small start.requires _ _ at_end.end_of-end.ensures.title_is at-later.max-from.ensures in
    begins_told _ _ _ _ _ _ start.requires soon.1 (report_told _ _ _ _ (given_in _ _ _ g.limits) soon.0 g.whole _ at-report.report_of-report.ensures)
