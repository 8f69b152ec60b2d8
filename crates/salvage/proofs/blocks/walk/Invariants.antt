-- What the loop keeps, and what falls.
use mathlib.Core.Path.{sym, ◌∙◌}
use Prim.Native.Nat.{◌+◌, ◌-◌}
use native.Mathlib.Omega.{arith}
use lib.ListN.{length}
use Rattle.salvaging.proofs.Laying.{falls}
use Rattle.salvage.proofs.Walking.{WalkedTo, not_begun, between, in_window, walked_on_lem, at_end, undecided}
use borrow.Author.Rules.{rules}
use Rattle.salvage.proofs.blocks.walk.Given as goal

abbrev pub invariant-loop-progress : goal.invariant-loop-progress
invariant-loop-progress l = WalkedTo l.window l.over l.initial.progress l.initial.area l.initial.told l.progress l.at l.said l.area l.told

abbrev pub decreases-loop-progress : goal.decreases-loop-progress
decreases-loop-progress l = l.initial.progress.place + length l.window - l.progress.place
