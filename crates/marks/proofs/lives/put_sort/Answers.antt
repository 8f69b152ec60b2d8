-- `marks::lives::put_sort` meets its contract: by the kind of the film.
use borrow.Author.Tests.{eq-eqb, ne_eqb}
use Rattle.text.specs.Texts.{text}
use Rattle.marks.specs.Marks.{sort_text}
use Rattle.marks.proofs.lives.put_sort.Goals as goal

pub returns-then-kind-eq-STEADY : goal.returns-then-kind-eq-STEADY
unfolding sort_text text
returns-then-kind-eq-STEADY c = rw (eq-eqb _ _ c.if-kind-eq-STEADY.true) c.put.ensures

pub returns-else-kind-eq-STEADY : goal.returns-else-kind-eq-STEADY
unfolding sort_text text
returns-else-kind-eq-STEADY c = rw (ne_eqb _ _ c.if-kind-eq-STEADY.false) c.put-else-kind-eq-STEADY.ensures
