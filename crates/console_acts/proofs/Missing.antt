-- Which number a refusal's words name, as the code meets the cases of the definition.
use Prim.Native.Nat.{ℕ, ◌+◌}
use mathlib.Core.Path.{◌≡◌}
use mathlib.Core.List.{List}
use borrow.Author.Tests.{eq-eqb, ne_eqb}
use Rattle.rules.specs.Refusals.{out_of_turn}
use Rattle.notice.specs.declared.Reading.{Reading}
use Rattle.notice.specs.Decode.{read_of}
use Rattle.agent.specs.declared.Agent.{Agent}
use Rattle.console_commands.specs.Commands
use Rattle.console_lines.specs.declared.lines.Line.{Line}
use Rattle.console_notices.specs.Hex.{bytes_in}
use Rattle.console_acts.specs.Events.{event_in}
use Rattle.console_acts.specs.Named.{missed_by, missed_of, named_in}

module _ (a : ℕ) (g : Agent) (l : Line) (s : List ℕ) where
  pub names_sequence : a ≡ out_of_turn → g.sequence + 1 ≡ named_in a g l s
  unfolding named_in
  names_sequence h = rw (eq-eqb _ _ h)

  module _ (x : ℕ) where
    pub names_notice : (r : Reading) → (a ≡ out_of_turn → ⊥) → l.command ≡ Commands.do_notice → r ≡ read_of (bytes_in s l)
        → x ≡ missed_of a g.state r
        → x ≡ named_in a g l s
    unfolding named_in
    names_notice r h c e f = rw (ne_eqb _ _ h, eq-eqb _ _ c, ← e) f

    pub names_event : (a ≡ out_of_turn → ⊥) → (l.command ≡ Commands.do_notice → ⊥) → x ≡ missed_by a g.state (event_in l)
        → x ≡ named_in a g l s
    unfolding named_in
    names_event h c e = rw (ne_eqb _ _ h, ne_eqb _ _ c) e
