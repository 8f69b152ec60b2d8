-- `curves::put_level` meets its contract: a step where it is a column wide, else nothing.
use mathlib.Core.Path.{refl}
use borrow.Author.Tests.{lt-ltb, le-ltb}
use Rattle.text.specs.Texts.{text}
use Rattle.text.proofs.Pages.{then, nothing}
use Rattle.curves.specs.Curves.{level_text, level_kept}
use Rattle.curves.proofs.put_level.Goals as goal

pub returns-then-x-end : goal.returns-then-x-end
unfolding text level_text level_kept
returns-then-x-end c =
    rw (← c.place-x.ensures.is, ← c.place-end.ensures.is, lt-ltb _ _ c.if-x-end.true, ← c.height-old.ensures, ← c.height.ensures) record {
      written = then (then (then (then c.put_path.ensures c.put_point.ensures) c.put_step.ensures) c.put_step-then-x-end.ensures) c.put_path_end.ensures;
      kept_after = refl;
    }

pub returns-else-x-end : goal.returns-else-x-end
unfolding level_text level_kept
returns-else-x-end c =
    rw (← c.place-x.ensures.is, ← c.place-end.ensures.is, le-ltb _ _ c.if-x-end.false) record { written = nothing; kept_after = refl }
