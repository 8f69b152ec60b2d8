-- `counted` meets its contract: its tests are the definition's.
use Prim.Native.Nat.{◌<◌, ◌^◌}
use mathlib.Core.Path.{refl}
use native.Mathlib.Omega.{arith}
use borrow.Author.Tests.{le-leb, lt-leb}
use Rattle.journals.proofs.StartSteps.{room_test}
use Rattle.journals.specs.Rows.{is_counted}
use Rattle.journals.proofs.counted.Goals.{then-start, else-start}
use Rattle.journals.proofs.counted.Goals as goal

pub returns-then-start-2 : goal.returns-then-start-2
unfolding is_counted
returns-then-start-2 c =
    let x = c.args in
    let fits : x.size < 2 ^ 64 = omega arith in
    rw (le-leb _ _ c.if-start-2.true.0, le-leb _ _ c.if-start-2.true.1) (room_test x.start.place x.size fits)

pub returns-else-start-2 : goal.returns-else-start-2
unfolding is_counted
returns-else-start-2 c =
    elim c.if-start.branch [
      | then-start w ↦
          let behind : c.args.start.place < c.args.start.behind = grind (arith, c.if-start-2.either, w.if-start.true) in
          rw (w.t-4-is, le-leb _ _ w.if-start.true, lt-leb _ _ behind) refl
      | else-start w ↦ rw (w.t-4-is, lt-leb _ _ w.if-start.false) refl
    ]
