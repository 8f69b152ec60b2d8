-- What the loop keeps.
use mathlib.Core.Path.{◌≡◌}
use lib.ListN.{length}
use Rattle.text.specs.Pages.{Puts}
use Rattle.strips.specs.Kept.{kept_length}
use Rattle.strips.specs.Lanes.{lanes_marks, lanes_kept}
use Rattle.strips.proofs.lanes.put_lanes.Given as goal

abbrev pub invariant-loop-lane : goal.invariant-loop-lane
invariant-loop-lane l = (Puts l.initial.page (lanes_marks l.band l.initial.kept l.t l.count l.over l.time l.lane) l.page)
    × (l.kept ≡ lanes_kept l.band l.initial.kept l.t l.count l.over l.time l.lane) × (length l.kept ≡ kept_length)
