-- `log_marks::hearing::put_ended` meets its contract: its frame and its label.
use mathlib.Core.List.{List}
use Prim.Native.Nat.{ℕ}
use Rattle.marks.specs.Marks.{life_label_text, life_label_kept}
use Rattle.log_marks.specs.Hearing.{life_marks}
use Rattle.log_marks.proofs.Threaded.{then_text, then_kept}
use Rattle.log_marks.proofs.hearing.put_ended.Goals as goal

pub returns : goal.returns
unfolding life_marks
returns c =
    let x = c.args in record {
      written = then_text (λ (k : List ℕ). life_label_text x.band k x.t) c.put_life.ensures.written c.put_life.ensures.kept_after c.put_life_label.ensures.written;
      kept_after = then_kept (λ (k : List ℕ). life_label_kept x.band k x.t) c.put_life.ensures.kept_after c.put_life_label.ensures.kept_after;
    }
