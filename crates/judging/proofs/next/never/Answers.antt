-- `judging::next::never` meets its contract: past the record's end nothing is shown.
use mathlib.Core.Path.{refl}
use native.Mathlib.Omega.{arith}
use lib.ListN.{replicate, get_or-replicate}
use Rattle.rules.specs.Limits.{plan_places}
use Rattle.judging.specs.Record.{nothing_seen, ticks_in}
use Rattle.judging.proofs.Walked.{nexts_end}
use Rattle.judging.proofs.next.never.Goals as goal

pub returns : goal.returns
returns c =
    nexts_end c.args.air.now (ticks_in c.args.air.now) (replicate plan_places nothing_seen) (omega arith) refl
    (λ i l. get_or-replicate plan_places i nothing_seen 0 l)
