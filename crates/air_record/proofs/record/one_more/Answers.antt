-- `air_record::record::one_more` meets its contract: one more, or as far as 64 bits count.
use native.Mathlib.Omega.{arith}
use Rattle.air_record.specs.Record.{one_more_of}
use Rattle.air_record.proofs.record.one_more.Goals as goal

pub returns : goal.returns
unfolding one_more_of
returns c = omega (arith, c.saturating_add.ensures)
