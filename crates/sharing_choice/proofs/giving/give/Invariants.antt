-- What the loop keeps, and what falls.
use Rattle.sharing_titles.specs.Titles.{titles}
use Rattle.sharing_choice.proofs.giving.Laws.{Progress}
use Rattle.sharing_choice.proofs.giving.give.Given as goal

abbrev pub invariant-loop : goal.invariant-loop
invariant-loop l = Progress (titles l.rates l.lengths l.floors l.caps) l.counter l.counts
