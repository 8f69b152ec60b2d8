-- `salvage_lines::put_gap` meets its contract: a gap lies between two notices.
use Rattle.salvage_lines.proofs.Saying.{none_before, none_behind, two_taken}
use Rattle.salvage_lines.proofs.put_gap.Goals as goal

pub returns-in-None : goal.returns-in-None
returns-in-None c = none_before _ _ _ c.in-None.is

pub returns-in-None-behind : goal.returns-in-None-behind
returns-in-None-behind c = none_behind _ _ _ _ c.in-Some.is c.in-None-behind.is

pub returns-in-Some-behind : goal.returns-in-Some-behind
returns-in-Some-behind c = two_taken _ _ _ _ c.in-Some.is _ _ c.in-Some-behind.is c.put_follows.ensures
