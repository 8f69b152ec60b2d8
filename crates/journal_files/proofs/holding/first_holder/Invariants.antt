-- `journal_files::holding::first_holder`: it goes on by a byte at least.
use Rattle.std.proofs.Common.{◌-◌, ◌≤◌}
use Rattle.journal_files.proofs.holding.first_holder.Given as goal

abbrev pub invariant-loop-place : goal.invariant-loop-place
invariant-loop-place l = l.place ≤ l.own

abbrev pub decreases-loop-place : goal.decreases-loop-place
decreases-loop-place l = l.own - l.place
