-- What a line of the console is answered, and the agent that it leaves (docs/CONSOLE.md, "Commands").
use Rattle.std.specs.Prelude.{ℕ, ◌≡◌, Bool, List, [], ◌∷◌, ◌++◌, eqb}
use Rattle.rules.specs.Limits.{both, either, within}
use Rattle.rules.specs.Refusals.{pick}
use Rattle.scheduler.specs.Outcomes.{held_shown}
use Rattle.agent.specs.declared.Agent.{Agent}
use Rattle.console_commands.specs.Commands
use Rattle.console_lines.specs.declared.lines.Line.{Line}
use Rattle.console_lines.specs.Lines.{meaning}
use Rattle.text.specs.Output.{Written}
use Rattle.console_answers.specs.Faults.{fault_text}
use Rattle.console_answers.specs.Outcomes.{done_text, value_text}
use Rattle.console_acts.specs.Acts.{answer_after, agent_acted}
use Rattle.console_acts.specs.Named.{named_in}
use Rattle.console_desk.specs.Behind.{behind_in}
use Rattle.console_desk.specs.Asks.{ask_text}

-- the commands that have no answer: none is asked, or the session is to end
abbrev pub is_silent : ℕ → Bool
is_silent c = either (eqb c Commands.none) (eqb c Commands.do_quit)

-- the commands that may change the agent: fresh, the events, notice
unfoldable pub may_change : ℕ → Bool
may_change c = either (eqb c Commands.do_notice) (within Commands.do_fresh Commands.do_skip c)

-- what an event or a notice was answered, with the lanes held at its time, which is that of the last accepted event; of
-- a refusal, the number that its words name
unfoldable pub followed_text : ℕ → Agent → ℕ → List ℕ
followed_text a g named = value_text a (held_shown g.state g.state.last) named

-- what a command that may change the agent g was answered, with the agent after it; what to type next stands behind it
unfoldable pub told_text : ℕ → Agent → Agent → Line → List ℕ → List ℕ
told_text a next g l s =
    pick (eqb l.command Commands.do_fresh) (done_text a 0) (followed_text a next (named_in a g l s))

unfoldable pub act_text : Agent → Line → List ℕ → List ℕ
act_text g l s = told_text (answer_after g l s) (agent_acted g l s) g l s ++ behind_in (answer_after g l s) g l s

abbrev pub line_end : List ℕ
line_end = 10 ∷ []

-- a line with nothing wrong: no answer to one that asks nothing or ends the session, else one that ends in a newline
unfoldable pub whole_text : Agent → Line → List ℕ → List ℕ
whole_text g l s =
    pick (is_silent l.command) []
    (pick (may_change l.command) (act_text g l s) (ask_text g.state l s) ++ line_end)

unfoldable pub after_whole : Agent → Line → List ℕ → Agent
after_whole g l s = pick (may_change l.command) (agent_acted g l s) g

-- what is wrong with a line of a command, and the command's usage
abbrev pub fault_line : ℕ → ℕ → ℕ → List ℕ
fault_line f p c = fault_text f p c ++ line_end

-- what the line s is answered: what is wrong with it, or what it asks for
unfoldable pub line_text : Agent → List ℕ → List ℕ
line_text g s =
    pick (eqb (meaning s).fault Commands.no_fault) (whole_text g (meaning s) s)
    (fault_line (meaning s).fault (meaning s).place (meaning s).command)

-- the agent after the line s: as it was after a line that cannot be read, and after a question
unfoldable pub after_line : Agent → List ℕ → Agent
after_line g s = pick (eqb (meaning s).fault Commands.no_fault) (after_whole g (meaning s) s) g

-- the session is over after a line
unfoldable pub is_last : Line → Bool
is_last l = both (eqb l.fault Commands.no_fault) (eqb l.command Commands.do_quit)

-- what a line leaves: an agent, and a row in which its answer was written at a place
pub record Left (g : Agent) (before : List ℕ) (at : ℕ) (text : List ℕ) (after : Agent) (row : List ℕ) (behind : ℕ)
    : Type 0 where
  pub agent : after ≡ g
  pub written : Written before at text row behind
