-- What the loop keeps.
use mathlib.Core.Path.{◌≡◌}
use Rattle.rules.specs.Search.{how_many}
use Rattle.sharers.specs.Sharers.{takes_part}
use Rattle.wishes.specs.Shares.{shares_to}
use Rattle.wishes.proofs.shares.by_id.Given as goal

abbrev pub invariant-loop-i : goal.invariant-loop-i
invariant-loop-i l = (l.place ≡ how_many (takes_part l.fn.s) l.i) × (l.row ≡ shares_to l.fn.s l.counts l.i)
