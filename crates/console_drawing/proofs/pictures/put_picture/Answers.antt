-- `console_drawing::pictures::put_picture` meets its contract: a title that is to be drawn can be read; where there is none nothing is
-- written.
use mathlib.Core.Path.{◌≡◌, sym, ◌∙◌}
use mathlib.Core.Bool.{Bool, true}
use native.Mathlib.Omega.{arith}
use Prim.Native.Nat.{ℕ}
use Rattle.measures.specs.Readable.{Filmed}
use Rattle.story.specs.declared.State.{State}
use Rattle.story.specs.declared.Title.{Title}
use Rattle.story.specs.Kept.{title_at}
use Rattle.text.proofs.Pages.{nothing}
use Rattle.console_drawing.specs.Pictures.{is_drawable, title_picture}
use Rattle.console_drawing.proofs.Drawable.{drawable_id, drawable_last, drawable_film}
use Rattle.console_drawing.proofs.pictures.put_picture.Goals as goal

-- the film of the title that is read
film : (s : State) (i : ℕ) {b : Bool} {t : Title} → b ≡ is_drawable s i → b ≡ true → t ≡ title_at s i → Filmed t.film
film s i e y is = rw is (drawable_film s i (sym e ∙ y))

pub title_of-t-requires : goal.title_of-t-requires
title_of-t-requires c =
    let x = c.args in
    drawable_id x.s x.id (sym c.is_drawable.ensures ∙ c.if-is_drawable.true)

pub tick_at-requires : goal.tick_at-requires
tick_at-requires c = film c.args.s c.args.id c.is_drawable.ensures c.if-is_drawable.true c.title_of-t.ensures

pub put_lines-requires : goal.put_lines-requires
put_lines-requires c =
    let x = c.args in
    let last = drawable_last x.s x.id (sym c.is_drawable.ensures ∙ c.if-is_drawable.true) in
    record {
      lanes_le_count_max = (film x.s x.id c.is_drawable.ensures c.if-is_drawable.true c.title_of-t.ensures).cut.high;
      tick_le_asked_max = omega (arith, c.tick_at.ensures.high, last);
    }

pub returns-then-is_drawable : goal.returns-then-is_drawable
unfolding title_picture
returns-then-is_drawable c =
    rw (sym c.is_drawable.ensures ∙ c.if-is_drawable.true, ← c.title_of-t.ensures, ← c.tick_at.ensures.is)
    c.put_lines.ensures

pub returns-else-is_drawable : goal.returns-else-is_drawable
unfolding title_picture
returns-else-is_drawable c = rw (sym c.is_drawable.ensures ∙ c.if-is_drawable.false) nothing
