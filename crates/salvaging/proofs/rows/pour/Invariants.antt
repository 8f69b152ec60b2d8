-- What the loop keeps, and what falls.
use mathlib.Core.Path.{sym, ◌∙◌}
use Prim.Native.Nat.{◌+◌, ◌-◌}
use native.Mathlib.Omega.{arith}
use lib.ListN.{length}
use Rattle.salvaging.proofs.Laying.{Pouring, empty, between, in_window, laid_on, falls, at_end, undecided}
use borrow.Author.Rules.{rules}
use Rattle.salvaging.proofs.rows.pour.Given as goal

abbrev pub invariant-loop-progress : goal.invariant-loop-progress
invariant-loop-progress l = Pouring l.window l.over l.initial.progress l.initial.area l.initial.row l.progress l.to l.area l.row

abbrev pub decreases-loop-progress : goal.decreases-loop-progress
decreases-loop-progress l = l.initial.progress.place + length l.window - l.progress.place
