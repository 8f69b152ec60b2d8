-- `log_marks::ending::put_left` meets its contract: nothing without a title, else its life, its lanes and its doors.
use mathlib.Core.Path.{refl}
use mathlib.Core.List.{List}
use Prim.Native.Nat.{ℕ}
use mathlib.Core.Bool.{true, false}
use borrow.Author.Tests.{eq-eqb, ne_eqb}
use Rattle.rules.specs.Limits.{count_max}
use Rattle.text.proofs.Pages.{nothing}
use Rattle.strips.specs.Lanes.{lanes_marks, lanes_kept}
use Rattle.strips.specs.Doors.{doors_mark, doors_kept}
use Rattle.log_marks.specs.Ending.{left_marks, left_kept}
use Rattle.log_marks.proofs.Threaded.{then_text, then_kept}
use Rattle.log_marks.proofs.ending.put_left.Goals as goal

pub returns-then-t-ne-ABSENT : goal.returns-then-t-ne-ABSENT
unfolding left_marks left_kept
returns-then-t-ne-ABSENT c =
    let x = c.args in
    let life = c.put_ended.ensures in
    let lanes = then_kept (λ (k : List ℕ). lanes_kept x.band k x.t c.ruling.result true x.end count_max) life.kept_after c.put_lanes.ensures.kept_after in
    rw (ne_eqb _ _ c.if-t-ne-ABSENT.true, ← c.left_until.ensures, ← c.ruling.ensures) record {
      written = then_text (λ (k : List ℕ). doors_mark x.band k x.t false x.end)
          (then_text (λ (k : List ℕ). lanes_marks x.band k x.t c.ruling.result true x.end count_max) life.written life.kept_after c.put_lanes.ensures.written)
          lanes c.put_doors.ensures.written;
      kept_after = then_kept (λ (k : List ℕ). doors_kept x.band k x.t false x.end) lanes c.put_doors.ensures.kept_after;
    }

pub returns-else-t-ne-ABSENT : goal.returns-else-t-ne-ABSENT
unfolding left_marks left_kept
returns-else-t-ne-ABSENT c = rw (eq-eqb _ _ c.if-t-ne-ABSENT.false) record { written = nothing; kept_after = refl }
