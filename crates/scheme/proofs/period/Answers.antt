-- `period` meets its contract: one tick on the first lane, and a power of two on another. Rests on what its callee ensures.
use mathlib.Core.Path.{sym, ◌∙◌}
use borrow.Author.Rules.{rules}
use Rattle.scheme.proofs.ByKind.{period_above}
use Rattle.scheme.proofs.period.Goals as goal

pub returns : goal.returns
returns c =
    record {
      is = c.pow2.ensures.is ∙ sym (period_above c.args.lane c.if-lane-eq0.false);
      low = c.pow2.ensures.low;
      high = c.pow2.ensures.high;
    }
