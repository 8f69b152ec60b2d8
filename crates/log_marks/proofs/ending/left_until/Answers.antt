-- `log_marks::ending::left_until` meets its contract: by whether the title is open.
use mathlib.Core.Path.{refl}
use borrow.Author.Tests.{eq-eqb, ne_eqb}
use Rattle.log_marks.specs.Ending.{left_until}
use Rattle.log_marks.proofs.ending.left_until.Goals as goal

pub returns-then-t-eq-OPEN : goal.returns-then-t-eq-OPEN
unfolding left_until
returns-then-t-eq-OPEN c = rw (eq-eqb _ _ c.if-t-eq-OPEN.true) refl

pub returns : goal.returns
unfolding left_until
returns c = let at-if1 = c in
    rw (ne_eqb _ _ at-if1.if-t-eq-OPEN.false) c.title_until.ensures
