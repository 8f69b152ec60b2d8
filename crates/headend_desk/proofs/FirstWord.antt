-- A line whose command the head-end does not know is one whose first word it does not know: no word that follows makes another command
-- such a one. Rests on the first word deciding the command.
use Prim.Native.Nat.{ℕ, ◌+◌, ◌-◌, ◌≤◌}
use mathlib.Core.Path.{◌≡◌, refl, sym, ◌∙◌}
use mathlib.Core.Bool.{false}
use mathlib.Core.List.{List}
use native.Mathlib.Omega.{arith}
use borrow.Author.Tests.{ne_eqb}
use lib.Dec.{eqb}
use Rattle.rules.proofs.Tests.{either_false}
use Rattle.console_commands.specs.Commands
use Rattle.console_lines.specs.Lines.{meaning}
use Rattle.console_lines.proofs.Kept.{first_decides}
use Rattle.headend_desk.specs.Desk.{is_apart, starts_apart}

-- a command past notice is known
later_known : (c : ℕ) → Commands.do_write ≤ c → is_apart c ≡ false
later_known c le =
    either_false (eqb c Commands.do_fresh) (eqb c Commands.do_notice)
    (ne_eqb c Commands.do_fresh (λ q. omega arith))
    (ne_eqb c Commands.do_notice (λ q. omega arith))

pub first_word : (s : List ℕ) → is_apart (meaning s).command ≡ starts_apart s
first_word s =
    first_decides (λ c. is_apart c ≡ starts_apart s)
    (λ v low high h. later_known (Commands.do_write + v) (omega arith) ∙ sym (later_known Commands.do_write (omega arith)) ∙ h)
    (λ v low high h. later_known (Commands.when_close + (v - Commands.do_close)) (omega arith) ∙ sym (later_known Commands.do_when (omega arith)) ∙ h)
    s refl
