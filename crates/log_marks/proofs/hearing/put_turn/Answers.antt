-- `log_marks::hearing::put_turn` meets its contract: the life before it, the lanes, the doors.
use mathlib.Core.List.{List}
use Prim.Native.Nat.{ℕ}
use mathlib.Core.Bool.{not}
use lib.Dec.{eqb}
use Rattle.rules.specs.Limits.{count_max}
use Rattle.story.specs.Kept.{open_mode, is_shut}
use Rattle.strips.specs.Lanes.{lanes_marks, lanes_kept}
use Rattle.strips.specs.Doors.{doors_mark, doors_kept}
use Rattle.log_marks.specs.Hearing.{turn_marks, turn_kept}
use Rattle.log_marks.proofs.Threaded.{then_text, then_kept}
use Rattle.log_marks.proofs.hearing.put_turn.Goals as goal

pub returns : goal.returns
unfolding turn_marks turn_kept
returns c =
    let x = c.args in
    let past = c.put_past.ensures in
    let lanes = then_kept (λ (k : List ℕ). lanes_kept x.band k x.t c.ruling.result (not (eqb x.t.mode open_mode)) x.time count_max) past.kept_after c.put_lanes.ensures.kept_after in
    rw (← c.ruling.ensures) record {
      written = then_text (λ (k : List ℕ). doors_mark x.band k x.t (is_shut x.after) x.time)
          (then_text (λ (k : List ℕ). lanes_marks x.band k x.t c.ruling.result (not (eqb x.t.mode open_mode)) x.time count_max) past.written past.kept_after c.put_lanes.ensures.written)
          lanes c.put_doors.ensures.written;
      kept_after = then_kept (λ (k : List ℕ). doors_kept x.band k x.t (is_shut x.after) x.time) lanes c.put_doors.ensures.kept_after;
    }
