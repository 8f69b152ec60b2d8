-- What the loop keeps: the ticks passed have their signs.
use Prim.Native.Nat.{ℕ, ◌+◌}
use Rattle.text.specs.Pages.{Puts}
use Rattle.console_answers.specs.Entries.{each}
use Rattle.console_drawing.specs.Pictures.{sign_text}
use Rattle.console_drawing.proofs.pictures.put_signs.Given as goal

abbrev pub invariant-loop-j : goal.invariant-loop-j
invariant-loop-j l = Puts l.initial.page (each (λ (j : ℕ). sign_text l.t l.lane (l.tick + j)) l.j) l.page
