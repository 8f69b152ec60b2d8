-- `free_lanes` meets its contract: what the lanes held leave of the pool.
use mathlib.Core.Path.{sym, ◌∙◌}
use Rattle.measures.proofs.Within.{all_readable}
use Rattle.outlook.specs.Outlook.{free_lanes}
use Rattle.outlook.proofs.free_lanes.Goals as goal

pub lanes_held-requires : goal.lanes_held-requires
lanes_held-requires c =
    all_readable c.args.s (sym c.state_ok.ensures ∙ c.if-state_ok.true)

pub returns-then-state_ok : goal.returns-then-state_ok
unfolding free_lanes
returns-then-state_ok c =
    simp (← c.state_ok.ensures, c.if-state_ok.true, c.since.ensures, c.lanes_held.ensures)

pub returns : goal.returns
unfolding free_lanes
returns c = simp (← c.state_ok.ensures, c.if-state_ok.false)
