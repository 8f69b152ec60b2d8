-- What the loop keeps.
use Prim.Native.Nat.{◌<◌}
use mathlib.Core.Path.{◌≡◌}
use mathlib.Core.Bool.{false}
use lib.Dec.{ltb, leb}
use lib.ListN.{get_or}
use Rattle.rules.specs.Limits.{both}
use Rattle.rules.specs.Search.{some}
use Rattle.story.specs.Kept.{scheme_in, wants}
use Rattle.owed.proofs.owing.awaited_by_some.Given as goal

abbrev pub invariant-loop-count : goal.invariant-loop-count
invariant-loop-count l = (l.lane < l.count)
    × (some (λ c. both (ltb l.lane c) (both (leb l.t.film.floor c) (wants (scheme_in l.t) (get_or l.t.ends c 0) l.cell l.tick c))) l.count ≡ false)
