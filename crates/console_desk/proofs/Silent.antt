-- None of the commands without an answer may change the agent.
use Prim.Native.Nat.{ℕ}
use mathlib.Core.Path.{◌≡◌, refl}
use mathlib.Core.Bool.{true, false}
use mathlib.Core.Logic.{⊎_elim}
use borrow.Author.Tests.{eqb-true}
use lib.Dec.{eqb}
use Rattle.rules.proofs.Tests.{either_out}
use Rattle.console_commands.specs.Commands
use Rattle.console_desk.specs.Desk.{is_silent, may_change}

pub silent_stays : (c : ℕ) → is_silent c ≡ true → may_change c ≡ false
unfolding may_change
silent_stays c h =
    ⊎_elim (λ z. rw (eqb-true c Commands.none z) refl) (λ z. rw (eqb-true c Commands.do_quit z) refl)
    (either_out (eqb c Commands.none) (eqb c Commands.do_quit) h)
