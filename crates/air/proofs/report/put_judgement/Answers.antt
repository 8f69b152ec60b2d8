-- `air::report::put_judgement` meets its contract: what the two calls leave, told by marks and results, is what a life says.
use mathlib.Core.Path.{sym}
use Rattle.text.proofs.Pages.{told_as}
use Rattle.air.proofs.Printed.{printed}
use Rattle.air.proofs.report.put_judgement.Goals as goal

pub returns : goal.returns
returns c =
    let x = c.args in
    told_as
    (printed x.pool x.log.now x.title x.«record».now c.blank_marks-marks.result c.blank_row-row.result
    (sym c.blank_row-row.ensures) (sym c.blank_marks-marks.ensures.1) c.air-judgement.result _ _ c.air-judgement.ensures.0
    c.air-judgement.ensures.1 c.admissions.ensures.1)
    c.put_report.ensures
