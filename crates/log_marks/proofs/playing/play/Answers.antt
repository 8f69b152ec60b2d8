-- `log_marks::playing::play` meets its contract: each step is one read more, and one that goes on moves ahead.
use mathlib.Core.Path.{◌∙◌}
use native.Mathlib.Omega.{arith}
use Rattle.logs.proofs.Reading.{falls}
use Rattle.log_marks.proofs.Going.{begins, goes_on, is_tested, arrives}
use borrow.Author.Rules.{rules}
use Rattle.log_marks.proofs.playing.play.Goals as goal

pub loop-played-init : goal.loop-played-init
loop-played-init c = (begins _ _ _ _ _ _ _ c.not_begun-played.ensures c.requires.kept_len.0, search rules)

pub loop-played-preserved : goal.loop-played-preserved
loop-played-preserved c =
    (goes_on _ _ _ _ _ _ _ _ c.loop-played.invariant.0 _ _ _ c.step-played.ensures (c.step-played.auto.kept ∙ c.loop-played.invariant.0.long), search rules)

pub returns : goal.returns
returns c =
    arrives _ _ _ _ _ _ _ _ c.loop-played.invariant.0 c.loop-played-test.false (λ j. omega (arith, c.shared_slice_known-1.given j))

pub loop-played-smaller : goal.loop-played-smaller
loop-played-smaller c =
    falls _ _ _ c.loop-played-test.true c.step-played.ensures.played_is

pub step-played-requires-clause-tested : goal.step-played-requires-clause-tested
step-played-requires-clause-tested c =
    is_tested _ _ _ _ _ _ _ _ c.loop-played.invariant.0 (λ j. omega (arith, c.shared_slice_known-1.given j))
