-- `place_at` meets its contract.
use Rattle.stretches.proofs.LowSteps.{width_pos, own_pos, place_rest}
use Rattle.stretches.proofs.low.place_at.Goals as goal

pub nonzero_div-result : goal.nonzero_div-result
nonzero_div-result c = width_pos c.args.s c.requires

pub nonzero_rem-result : goal.nonzero_rem-result
nonzero_rem-result c = own_pos c.args.s c.requires

pub returns : goal.returns
returns c = place_rest c.args.s c.requires c.args.tick
