-- What the loop keeps: the ticks passed are written.
use Rattle.text.specs.Pages.{Puts}
use Rattle.console_answers.specs.Entries.{each}
use Prim.Native.Nat.{ℕ, ◌+◌, ◌*◌}
use Rattle.console_views.specs.Lanes.{shown_text}
use Rattle.console_views.proofs.lanes.put_row.Given as goal

abbrev pub invariant-loop-j : goal.invariant-loop-j
invariant-loop-j l = Puts l.initial.page (each (λ (j : ℕ). shown_text l.s l.id l.lane (l.time + j * l.tick)) l.j) l.page
