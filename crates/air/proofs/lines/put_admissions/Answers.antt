-- `air::lines::put_admissions` meets its contract: tick by tick, with the admissions counted.
use mathlib.Core.Path.{refl, ap, ◌∙◌}
use Prim.Native.Nat.{◌+◌}
use native.Mathlib.Nat.{le_antisymm}
use native.Mathlib.Omega.{arith}
use Rattle.rules.specs.Search.{how_many}
use Rattle.rules.proofs.Search.{how_many_le}
use Rattle.text.proofs.Pages.{told_as}
use Rattle.air.specs.inner.Steps.{is_marked, marked_lines}
use Rattle.air.proofs.Told.{counts_marked, counts_unmarked, lines_none, lines_marked, lines_unmarked}
use Rattle.air.proofs.lines.put_admissions.Goals.{then-mark-eq1, else-mark-eq1}
use Rattle.air.proofs.lines.put_admissions.Goals as goal

pub loop-tick-init : goal.loop-tick-init
unfolding how_many
loop-tick-init c = (refl, lines_none _ _ _ _)

pub overflow_add-j : goal.overflow_add-j
overflow_add-j c =
    let l = c.loop-tick in
    record { fits = omega (arith, l.invariant.0, how_many_le (is_marked c.args.marks.now) l.tick, c.loop-tick-test.true) }

pub loop-tick-preserved : goal.loop-tick-preserved
loop-tick-preserved c =
    let x = c.args in
    let marks = x.marks.now in
    let l = c.loop-tick in (
      elim c.if-mark-eq1.branch [
        | then-mark-eq1 w ↦
            w.j-is ∙ ap (λ j. j + 1) l.invariant.0 ∙ counts_marked marks l.tick w.if-mark-eq1.true
        | else-mark-eq1 w ↦ w.j-is ∙ l.invariant.0 ∙ counts_unmarked marks l.tick w.if-mark-eq1.false
      ],
      elim c.if-mark-eq1.branch [
        | then-mark-eq1 w ↦
            rw (w.page-is)
            (lines_marked marks x.row.now x.judged _ l.tick _ l.invariant.1 _ w.if-mark-eq1.true (rw (← l.invariant.0) w.put_judged.ensures))
        | else-mark-eq1 w ↦
            rw (w.page-is) (lines_unmarked marks x.row.now x.judged _ l.tick _ l.invariant.1 w.if-mark-eq1.false)
      ],
    )

pub returns : goal.returns
returns c =
    let all = le_antisymm (omega arith) c.loop-tick-test.false in
    told_as (ap (marked_lines c.args.marks.now c.args.row.now c.args.judged) all) c.loop-tick.invariant.1
