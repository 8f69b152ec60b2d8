-- `judging::results::results` meets its contract. The invariant: from the tick reached on, the next ticks and the results are
-- those of the record.
use mathlib.Core.Path.{◌≡◌, sym, subst, ◌∙◌}
use mathlib.Core.List.{List}
use Prim.Native.Nat.{ℕ, suc, ◌+◌, ◌-◌, ◌≤◌, ◌<◌}
use native.Mathlib.Omega.{arith}
use borrow.Author.Tests.{leb-true, leb-false}
use Rattle.judging.specs.Record.{ticks_in}
use Rattle.judging.specs.inner.Walk.{Nexts, Results}
use Rattle.judging.proofs.Walked.{nexts_step}
use Rattle.judging.proofs.Found.{found_end, found_short, found_whole}
use Rattle.judging.proofs.results.results.Goals as goal

pub loop-start-init : goal.loop-start-init
loop-start-init c =
    let a = c.args in
    (omega arith, (c.never-next.ensures, found_end _ _ _ _ (ticks_in a.air.now) c.blank-results.result (omega arith) c.blank-results.ensures))

pub loop-start-preserved-then-is_whole : goal.loop-start-preserved-then-is_whole
loop-start-preserved-then-is_whole c =
    let judged = c in
    let l = judged.loop-start in
    let start = judged in
    let pre = start.requires in
    let air : List ℕ = start.args.air.now in
    let back : l.start ≡ suc (l.start - 1) = omega arith in
    let N : Nexts air (l.start - 1) judged.note.new.next =
    subst (Nexts air (l.start - 1)) (sym judged.note.ensures)
    (nexts_step air (l.start - 1) l.next l.start back l.invariant.1.0) in
    let whole : l.start - 1 + start.args.cells ≤ ticks_in air =
    leb-true _ _ (sym judged.is_whole.ensures ∙ judged.if-is_whole.true) in (
      omega arith,
      (
        N,
        found_whole air start.args.cells start.args.length start.args.tick (l.start - 1) l.start back l.results
            l.invariant.1.1 _ _ N pre.cells_le_plan_places.0 pre.air_bound (omega arith) whole c.lowest_late.ensures,
      ),
    )

pub loop-start-preserved : goal.loop-start-preserved
loop-start-preserved c =
    let l = c.loop-start in
    let start = c in
    let air : List ℕ = start.args.air.now in
    let back : l.start ≡ suc (l.start - 1) = omega arith in
    let short : ticks_in air < l.start - 1 + start.args.cells =
    leb-false _ _ (sym c.is_whole.ensures ∙ c.if-is_whole.false) in (
      omega arith,
      (
        subst (Nexts air (l.start - 1)) (sym c.note.ensures)
            (nexts_step air (l.start - 1) l.next l.start back l.invariant.1.0),
        found_short air start.args.cells start.args.length start.args.tick (l.start - 1) l.start back l.results
            l.invariant.1.1 short,
      ),
    )

pub returns : goal.returns
returns c =
    let a = c.args in
    let l = c.loop-start in
    subst (λ (b : ℕ). Results a.air.now a.cells a.length a.tick b l.results) (omega (arith, c.loop-start-test.false)) l.invariant.1.1
