-- `records` meets its contract: an answer of done has every record filled in.
use Rattle.std.proofs.Common.{◌≡◌, refl, sym, ap, ◌∙◌, add-one, Bool}
use native.Mathlib.Nat.{le_antisymm}
use Rattle.status_records.specs.Records.{records_answer, record_for}
use Rattle.questions.specs.Asked.{asked_answer}
use Rattle.status_records.proofs.Rows.{filled_next, filled_to, records_filled}
use Rattle.status_records.proofs.records.Goals as goal

pub loop-r-init : goal.loop-r-init
unfolding filled_to
loop-r-init c = refl

pub loop-r-preserved : goal.loop-r-preserved
loop-r-preserved c =
    let l = c.loop-r in
    rw add-one (filled_next _ c.args.rows.now l.rows l.r-index c.row_for.result l.invariant c.row_for.ensures)

pub returns : goal.returns
unfolding records_answer
returns c =
    let a = c.args in
    let rows = a.rows.now in
    let l = c.loop-r in
    let answer : 0 ≡ records_answer a.s a.time rows =
    c.in_default.ensures ∙ ap (λ (b : Bool). asked_answer a.s a.time b) c.ids_ok.ensures in (
      answer,
      l.invariant ∙ ap (filled_to (record_for a.s a.time) rows) (le_antisymm l.auto.r-index-end c.loop-r-test.false)
          ∙ records_filled a.s a.time rows (sym answer),
    )
