-- `log_marks::hearing::put_unheard` meets its contract: its mark and its number.
use mathlib.Core.List.{List}
use Prim.Native.Nat.{ℕ}
use Rattle.marks.specs.Marks.{refused_label, refused_label_kept}
use Rattle.log_marks.specs.Hearing.{unheard_marks, unheard_kept}
use Rattle.log_marks.proofs.Threaded.{then_text, then_kept}
use Rattle.log_marks.proofs.hearing.put_unheard.Goals as goal

pub returns : goal.returns
unfolding unheard_marks unheard_kept
returns c =
    let x = c.args in
    let mark = c.put_refused.ensures in
    rw (← c.place_of-x.ensures.is) record {
      written = then_text (λ (k : List ℕ). refused_label c.place_of-x.result k x.answer) mark.written mark.kept_after c.put_number_at.ensures.written;
      kept_after = then_kept (λ (k : List ℕ). refused_label_kept c.place_of-x.result k) mark.kept_after c.put_number_at.ensures.kept_after;
    }
