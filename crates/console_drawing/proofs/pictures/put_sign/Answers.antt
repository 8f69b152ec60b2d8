-- `console_drawing::pictures::put_sign` meets its contract: the tests that led to each way out say which sign it is.
use mathlib.Core.Path.{sym, ◌∙◌}
use borrow.Author.Tests.{lt-ltb, le-ltb}
use Rattle.console_drawing.specs.Pictures.{sign_text}
use Rattle.console_drawing.proofs.pictures.put_sign.Goals as goal

pub returns-then-lane-ruling : goal.returns-then-lane-ruling
unfolding sign_text
returns-then-lane-ruling c = rw (← c.ruling.ensures, lt-ltb _ _ c.if-lane-ruling.true) c.put.ensures

pub returns-then-is_held : goal.returns-then-is_held
unfolding sign_text
returns-then-is_held c =
    rw (← c.ruling.ensures, le-ltb _ _ c.if-lane-ruling.false, sym c.is_held.ensures ∙ c.if-is_held.true)
    c.put-then-is_held.ensures

pub returns-else-is_held : goal.returns-else-is_held
unfolding sign_text
returns-else-is_held c =
    rw (← c.ruling.ensures, le-ltb _ _ c.if-lane-ruling.false, sym c.is_held.ensures ∙ c.if-is_held.false)
    c.put-else-is_held.ensures
