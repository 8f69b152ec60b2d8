-- What the loop keeps.
use mathlib.Core.Path.{◌≡◌}
use lib.ListN.{length}
use Rattle.agent_rows.specs.Packed.{unpacked}
use Rattle.text.specs.Pages.{Puts}
use Rattle.strips.specs.Kept.{kept_length}
use Rattle.log_marks.specs.Ending.{all_marks, all_kept}
use Rattle.log_marks.proofs.ending.put_all.Given as goal

abbrev pub invariant-loop-id : goal.invariant-loop-id
invariant-loop-id l = (Puts l.initial.page (all_marks l.v (unpacked l.row).state l.initial.kept l.end l.id) l.page)
    × (l.kept ≡ all_kept l.v (unpacked l.row).state l.initial.kept l.end l.id) × (length l.kept ≡ kept_length)
