-- `strips::lanes::put_lane` meets its contract: its stretch ends where it switches or all do, and begins anew where it switches.
use mathlib.Core.Path.{refl, sym, ap, ◌∙◌}
use mathlib.Core.List.{List}
use Prim.Native.Nat.{ℕ}
use lib.ListN.{set}
use Rattle.text.proofs.Pages.{nothing}
use Rattle.strips.specs.Lanes.{lane_mark, lane_kept}
use Rattle.strips.proofs.lanes.put_lane.Goals as goal

pub returns-then-switches : goal.returns-then-switches
unfolding lane_mark lane_kept
returns-then-switches c =
    rw (sym c.switches.ensures ∙ c.if-switches.true, ← c.kept_in-j.ensures.is, ← c.stretch_of-s.ensures)
    record { written = c.put_ended.ensures.written; kept_after = ap (λ (k : List ℕ). set k c.kept_in-j.result c.args.time) c.put_ended.ensures.kept_after }

pub returns-then-over : goal.returns-then-over
unfolding lane_mark lane_kept
returns-then-over c =
    rw (sym c.switches.ensures ∙ c.if-switches.false, c.if-over.true, ← c.kept_in-j.ensures.is, ← c.stretch_of-s.ensures) c.put_ended-then-over.ensures

pub returns-else-over : goal.returns-else-over
unfolding lane_mark lane_kept
returns-else-over c = rw (sym c.switches.ensures ∙ c.if-switches.false, c.if-over.false) record { written = nothing; kept_after = refl }
