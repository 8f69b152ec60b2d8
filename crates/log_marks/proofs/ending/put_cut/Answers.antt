-- `log_marks::ending::put_cut` meets its contract: a mark and its number where bytes are left, else nothing.
use mathlib.Core.Path.{refl}
use mathlib.Core.List.{List}
use Prim.Native.Nat.{ℕ}
use borrow.Author.Tests.{lt-ltb, le-ltb}
use Rattle.rules.specs.Refusals.{malformed}
use Rattle.text.proofs.Pages.{nothing}
use Rattle.drawing.specs.Axis.{plot_left}
use Rattle.marks.specs.Marks.{refused_label, refused_label_kept}
use Rattle.log_marks.specs.Ending.{cut_marks, cut_kept}
use Rattle.log_marks.proofs.Threaded.{then_text, then_kept}
use Rattle.log_marks.proofs.ending.put_cut.Goals as goal

pub returns-then-place-size : goal.returns-then-place-size
unfolding cut_marks cut_kept
returns-then-place-size c =
    let mark = c.put_broken.ensures in
    rw (lt-ltb _ _ c.if-place-size.true) record {
      written = then_text (λ (k : List ℕ). refused_label plot_left k malformed) mark.written mark.kept_after c.put_number_at.ensures.written;
      kept_after = then_kept (λ (k : List ℕ). refused_label_kept plot_left k) mark.kept_after c.put_number_at.ensures.kept_after;
    }

pub returns-else-place-size : goal.returns-else-place-size
unfolding cut_marks cut_kept
returns-else-place-size c = rw (le-ltb _ _ c.if-place-size.false) record { written = nothing; kept_after = refl }
