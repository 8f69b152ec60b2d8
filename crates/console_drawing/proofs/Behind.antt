-- A line from its first test on: what is drawn behind it, and what it makes of the switch. Rests on the definitions.
use Prim.Native.Nat.{ℕ}
use mathlib.Core.Path.{◌≡◌, sym, ◌∙◌}
use mathlib.Core.Bool.{Bool, true, false, not}
use mathlib.Core.List.{List}
use borrow.Author.Tests.{eq-eqb, ne_eqb}
use Rattle.rules.specs.Refusals.{done}
use Rattle.agent.specs.declared.Agent.{Agent}
use Rattle.text.specs.declared.page.Page.{Page}
use Rattle.text.specs.Pages.{Puts}
use Rattle.text.proofs.Pages.{nothing}
use Rattle.console_commands.specs.Commands
use Rattle.console_lines.specs.declared.lines.Line.{Line}
use Rattle.console_lines.specs.Lines.{meaning}
use Rattle.console_acts.specs.Acts.{answer_after, agent_acted}
use Rattle.console_drawing.specs.Pictures.{title_picture}
use Rattle.console_drawing.specs.Drawn.{says_event, title_in, event_drawn, drawn_behind, draws_after}

-- an event, by what it was answered
module _ (g next : Agent) (l : Line) (s : List ℕ) (a : ℕ) (e : a ≡ answer_after g l s) {p : Page} where
  pub draws_accepted : (i : ℕ) {q : Page} → a ≡ done → next ≡ agent_acted g l s → i ≡ title_in l s
      → Puts p (title_picture next.state i) q → Puts p (event_drawn g l s) q
  unfolding event_drawn
  draws_accepted i h f k w = rw (← e, eq-eqb _ _ h, ← f, ← k) w

  pub draws_refused : (a ≡ done → ⊥) → Puts p (event_drawn g l s) p
  unfolding event_drawn
  draws_refused h = rw (← e, ne_eqb _ _ h) nothing

-- any line
module _ (g : Agent) (s : List ℕ) (l : Line) (is : l ≡ meaning s) {p : Page} where
  pub draws_none : (l.fault ≡ Commands.no_fault → ⊥) → Puts p (drawn_behind g s) p
  unfolding drawn_behind
  draws_none h = rw (← is, ne_eqb _ _ h) nothing

  module _ (clear : l.fault ≡ Commands.no_fault) (b : Bool) (f : b ≡ says_event l.command) where
    pub draws_event : b ≡ true → {q : Page} → Puts p (event_drawn g l s) q → Puts p (drawn_behind g s) q
    unfolding drawn_behind
    draws_event y w = rw (← is, eq-eqb _ _ clear, sym f ∙ y) w

    pub draws_other : b ≡ false → Puts p (drawn_behind g s) p
    unfolding drawn_behind
    draws_other n = rw (← is, eq-eqb _ _ clear, sym f ∙ n) nothing

-- the switch
module _ (on : Bool) (s : List ℕ) (l : Line) (is : l ≡ meaning s) where
  pub turns : l.fault ≡ Commands.no_fault → l.command ≡ Commands.do_draw → not on ≡ draws_after on (meaning s)
  unfolding draws_after
  turns clear h = rw (← is, eq-eqb _ _ clear, eq-eqb _ _ h)

  pub stays_other : l.fault ≡ Commands.no_fault → (l.command ≡ Commands.do_draw → ⊥) → on ≡ draws_after on (meaning s)
  unfolding draws_after
  stays_other clear h = rw (← is, eq-eqb _ _ clear, ne_eqb _ _ h)

  pub stays_faulty : (l.fault ≡ Commands.no_fault → ⊥) → on ≡ draws_after on (meaning s)
  unfolding draws_after
  stays_faulty h = rw (← is, ne_eqb _ _ h)
