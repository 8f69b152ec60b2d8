-- `judging::judge` meets its contract: the two walks come to what every life with the marked admissions says.
use Rattle.judging.proofs.Lives.{judges}
use Rattle.judging.proofs.judge.Goals as goal

pub returns : goal.returns
returns c =
    let told = c in
    let found = told in
    let ticked = found in
    let cut = ticked in
    judges _ _ _ _ _ _ _ _ _ cut.pow2-cells.ensures.is ticked.tick-tick.ensures.is found.results-results.ensures told.tell.ensures
