-- `waits::arrivals::end_number` meets its contract: whether a number was being spelt.
use Rattle.waits.proofs.Taking.{ends_in, ends_out}
use Rattle.waits.proofs.arrivals.end_number.Goals as goal

pub returns : goal.returns
returns c = ends_in _ _ _ _ _ c.in-Some.is c.put_value.ensures

pub returns-in_default : goal.returns-in_default
returns-in_default c = ends_out _ _ c.in_default.is
