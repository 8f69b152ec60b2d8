-- `playouts::cells::place_from` meets its contract, by its sums.
use Rattle.playouts.specs.inner.Steps.{place_from}
use borrow.Author.Rules.{rules}
use Rattle.playouts.proofs.cells.place_from.Goals as goal

pub returns : goal.returns
unfolding place_from
returns c = search rules
