-- What the loop keeps, and what falls.
use Rattle.sharing_titles.specs.Titles.{titles}
use Rattle.sharing_choice.proofs.giving.Laws.{Leading}
use Rattle.sharing_choice.proofs.giving.next_title.Given as goal

abbrev pub invariant-loop-i : goal.invariant-loop-i
invariant-loop-i l = Leading (titles l.rates l.lengths l.floors l.caps) l.counts l.i l.best l.most
