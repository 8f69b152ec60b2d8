-- What the loop keeps.
use Prim.Native.Nat.{◌*◌, ◌≤◌}
use mathlib.Core.Path.{◌≡◌}
use lib.Dec.{eqb}
use Rattle.rules.specs.Limits.{count_max}
use Rattle.rules.specs.Refusals.{pick}
use Rattle.rules.specs.Search.{total}
use Rattle.story.specs.Kept.{title_held, title_at}
use Rattle.agent_rows.specs.Packed.{unpacked}
use Rattle.agent_rows.proofs.holding.others_held.Given as goal

abbrev pub invariant-loop-id : goal.invariant-loop-id
invariant-loop-id l = (l.n ≡ total (λ j. pick (eqb j l.but) 0 (title_held (title_at (unpacked l.row).state j) l.time)) l.id) × (l.n ≤ count_max * l.id)
