-- `steps::step` meets its contract, by what its reader finds at the place.
use mathlib.Core.Path.{refl, sym, ◌∙◌}
use native.Mathlib.Omega.{arith}
use Rattle.notice.proofs.NoticePlaces.{inside}
use Rattle.journals.specs.Rows.{row_hears}
use Rattle.journals.proofs.StepCases.{found_notice, found_end, found_none}
use Rattle.journals.proofs.steps.step.Goals as goal

pub notice_at-requires : goal.notice_at-requires
notice_at-requires c =
    let read = c in
    let start = read in
    let i = inside _ _ _ _ (sym read.next_in.ensures.is ∙ read.in-At.is) in
    let pre = start.requires in
    (pre.0, (omega (arith, i.ahead), (i.within, pre.1.1)))

pub returns-in-At : goal.returns-in-At
returns-in-At c =
    let heard = c in
    let read = heard in
    found_notice row_hears _ _ _ _ _ _ _ _ _ (sym read.next_in.ensures.is ∙ read.in-At.is) heard.notice_at.ensures

pub returns-in-End : goal.returns-in-End
returns-in-End c =
    found_end row_hears _ _ _ _ _ _ _ (sym c.next_in.ensures.is ∙ c.in-End.is) c.ended.ensures refl

pub returns-in-Malformed : goal.returns-in-Malformed
returns-in-Malformed c =
    let told = c in
    let start = told in
    found_none row_hears _ _ _ _ _ _ _ (sym told.next_in.ensures.is ∙ told.in-Malformed.is) start.requires.1.0
    c.stopped.ensures refl
