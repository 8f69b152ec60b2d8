-- What the loop keeps.
use mathlib.Core.Path.{◌≡◌}
use mathlib.Core.Bool.{true}
use Rattle.rules.specs.Search.{every}
use Rattle.agent_rows.specs.Layout.{title_place}
use Rattle.agent_rows.specs.Packed.{title_from}
use Rattle.agent_rows.specs.inner.Tested.{times_ok}
use Rattle.agent_rows.proofs.testing.each_times_ok.Given as goal

abbrev pub invariant-loop-i : goal.invariant-loop-i
invariant-loop-i l = every (λ j. times_ok (title_from l.row (title_place j))) l.i ≡ true
