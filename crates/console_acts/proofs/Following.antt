-- Each test on the command says which case of the definitions it is.
use Prim.Native.Nat.{ℕ}
use mathlib.Core.Path.{◌≡◌, ap}
use mathlib.Core.List.{List}
use borrow.Author.Tests.{eq-eqb, ne_eqb}
use Rattle.story.specs.declared.State.{State}
use Rattle.story.specs.Calls.{fresh_answer}
use Rattle.story.specs.Runs.{answered, called}
use Rattle.notice.specs.Decode.{read_of}
use Rattle.agent.specs.declared.Agent.{Agent}
use Rattle.agent.specs.Turns.{fresh_agent, notice_answer, noticed}
use Rattle.console_commands.specs.Commands
use Rattle.console_lines.specs.declared.lines.Line.{Line}
use Rattle.console_lines.specs.Lines.{number_in}
use Rattle.console_notices.specs.Hex.{bytes_in}
use Rattle.console_acts.specs.Events.{event_in}
use Rattle.console_acts.specs.Acts.{after_event, answer_after, agent_acted}

module _ (g : Agent) (l : Line) (s : List ℕ) (n : ℕ) (after : Agent) where
  -- what is to be shown of each way
  abbrev Follows : Type 0
  Follows = (n ≡ answer_after g l s) × (after ≡ agent_acted g l s)

  pub follows_fresh : l.command ≡ Commands.do_fresh
      → (n ≡ fresh_answer (number_in l 0)) × (after ≡ fresh_agent (number_in l 0)) → Follows
  unfolding answer_after agent_acted
  follows_fresh h e = rw (eq-eqb _ _ h) e

  pub follows_notice : (l.command ≡ Commands.do_fresh → ⊥) → l.command ≡ Commands.do_notice
      → (n ≡ notice_answer g (read_of (bytes_in s l))) × (after ≡ noticed g (read_of (bytes_in s l))) → Follows
  unfolding answer_after agent_acted
  follows_notice f h e = rw (ne_eqb _ _ f, eq-eqb _ _ h) e

  pub follows_event : (l.command ≡ Commands.do_fresh → ⊥) → (l.command ≡ Commands.do_notice → ⊥)
      → (n ≡ answered g.state (event_in l)) × (after ≡ after_event g l) → Follows
  unfolding answer_after agent_acted
  follows_event f h e = rw (ne_eqb _ _ f, ne_eqb _ _ h) e

-- the agent with another state
abbrev pub moved : Agent → State → Agent
moved g t = record { sequence = g.sequence; state = t }

pub moves : (g : Agent) (l : Line) (t : State) → t ≡ called g.state (event_in l) → moved g t ≡ after_event g l
moves g l t e = ap (moved g) e
