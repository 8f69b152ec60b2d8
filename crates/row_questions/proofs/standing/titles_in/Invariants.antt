-- What the loop keeps: the ids passed have their titles.
use mathlib.Core.Path.{◌≡◌}
use mathlib.Core.List.{◌++◌}
use lib.ListN.{length, take, drop}
use Rattle.rules.specs.Limits.{titles_max}
use Rattle.agent_rows.specs.Layout.{titles_at}
use Rattle.agent_rows.specs.Packed.{titles_from}
use Rattle.row_questions.proofs.standing.titles_in.Given as goal

abbrev pub invariant-loop-i : goal.invariant-loop-i
invariant-loop-i l = (l.title-items ≡ take l.i (titles_from l.row titles_at titles_max) ++ drop l.i l.initial.title-items) × (length l.title-items ≡ titles_max)
