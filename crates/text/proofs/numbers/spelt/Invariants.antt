-- What the loop keeps, and what falls.
use mathlib.Core.Path.{◌≡◌}
use lib.ListN.{drop}
use Rattle.text.specs.Numbers.{capped, amount}
use Rattle.text.proofs.Spelling.{spell}
use Rattle.text.proofs.numbers.spelt.Given as goal

abbrev pub invariant-loop-i : goal.invariant-loop-i
invariant-loop-i l = spell l.n (drop l.i l.s) ≡ capped (amount 0 (drop l.from l.s))
