-- What the loop keeps, and what falls.
use mathlib.Core.Path.{◌≡◌}
use lib.ListN.{drop}
use Rattle.rules.specs.Limits.{both}
use Rattle.sharing_titles.specs.Titles.{titles}
use Rattle.sharing.specs.Verdict.{allowed, ordered, each_title}
use Rattle.sharing.proofs.verdict.examine.Given as goal

abbrev pub invariant-loop-i : goal.invariant-loop-i
invariant-loop-i l = let ts = titles l.rates l.lengths l.floors l.caps in
    (both l.good (each_title allowed (drop l.i ts)) ≡ each_title allowed ts)
    × (both l.kept (each_title ordered (drop l.i ts)) ≡ each_title ordered ts)
