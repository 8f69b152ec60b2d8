-- `standing::head_stands` meets its contract: both tests are the definition's.
use mathlib.Core.Path.{refl}
use borrow.Author.Tests.{eq-eqb, ne_eqb}
use Rattle.notice_bytes.specs.Standing.{head_stands}
use Rattle.notice_bytes.proofs.standing.head_stands.Goals as goal

pub returns-then-tag : goal.returns-then-tag
unfolding head_stands
returns-then-tag c =
    let t = rw c.entry-f.ensures at c.if-tag.true in
    rw (c.get.ensures.0, c.entry-f.ensures, eq-eqb _ _ t) refl

pub returns-else-tag : goal.returns-else-tag
unfolding head_stands
returns-else-tag c =
    let t = rw c.entry-f.ensures at c.if-tag.false in
    rw (c.entry-f.ensures, ne_eqb _ _ t) refl
