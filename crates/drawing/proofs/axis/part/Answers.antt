-- `drawing::axis::part` meets its contract: the product fits, and its quotient is the definition's.
use Rattle.drawing.proofs.Parts.{product_fits, part_is, part_within}
use borrow.Author.Rules.{rules}
use Rattle.drawing.proofs.axis.part.Goals as goal

pub overflow_mul-result : goal.overflow_mul-result
overflow_mul-result c =
    let held = c.held_span-most.ensures in
    record { fits = product_fits _ _ _ _ c.min.ensures held.2 (search rules) }

pub returns : goal.returns
returns c =
    let held = c.held_span-most.ensures in
    (part_is _ _ _ _ _ held.0 c.min.ensures, part_within _ _ _ _ c.min.ensures)
