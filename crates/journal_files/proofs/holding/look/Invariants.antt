-- `journal_files::holding::look`: each line begins behind the one before it.
use Rattle.std.proofs.Common.{length, ◌-◌, ◌≤◌}
use Rattle.journal_files.proofs.holding.look.Given as goal

abbrev pub invariant-loop-end : goal.invariant-loop-end
invariant-loop-end l = (l.from ≤ l.end) × (l.end ≤ length l.window)

abbrev pub decreases-loop-end : goal.decreases-loop-end
decreases-loop-end l = length l.window - l.end
