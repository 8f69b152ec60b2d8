-- From a box's received bytes to demand 3: the page of the agent. It speaks of any series of byte strings, newest first, handed to a
-- fresh agent of a pool: the events heard are the accepted ones of some calls, and the agent's state is what those calls leave, so the
-- story's page (`story` specs/Demands) holds of them. proofs/Boxes shows each statement.
use Rattle.std.specs.Prelude.{ℕ, ◌≤◌, ◌<◌, ◌≡◌, List}
use Rattle.rules.specs.Limits.{titles_max, asked_max}
use Rattle.story.specs.Calls.{AnswersCell}
use Rattle.story.specs.Story.{life_at, up_to, InTick, Received}
use Rattle.story.specs.Runs.{state_after, Reached}
use Rattle.story.specs.Demands.{TellsTheStory, NoBoxRunsDry, WithinThePool, HeldAsOwed}
use Rattle.agent.specs.Series.{agent_after, events_heard, HeardBy}

pub record DemandsHeard (pool : ℕ) (bss : List (List ℕ)) : Type 0 where
  -- Some calls on a fresh pool have the events heard for their accepted ones and leave the agent's state.
  pub heard_reached : Reached pool (events_heard pool bss) (agent_after pool bss).state
  -- So these are accepted by the pool, each after those before it, and what the agent answers to a lane question and to status is what is
  -- on air after them.
  pub heard_story : TellsTheStory pool (events_heard pool bss) (agent_after pool bss).state
  -- No box that begins by the events heard runs dry.
  pub heard_boxes : NoBoxRunsDry pool (events_heard pool bss)
  -- The pool is never exceeded.
  pub heard_pool : WithinThePool pool (events_heard pool bss)
  -- A lane that is dropped, and not raised meanwhile, is held up to its release and no longer, in exactly as many ticks as it owes
  -- cells; raised before its release it is held throughout.
  pub heard_dropped : HeldAsOwed pool (events_heard pool bss)
  -- The agent itself, as it was at each moment: after some earlier part of the series just the events up to then had been heard, and
  -- its state was the one that they leave.
  pub heard_then : (υ : ℕ) → HeardBy pool bss υ
  pub heard_state_then : (υ : ℕ) (then : HeardBy pool bss υ) →
      (agent_after pool then.earlier).state ≡ state_after pool (up_to υ (events_heard pool bss))
  -- At every moment of the tick in which a box receives a cell, the agent as it was then answers 0 and that very cell.
  pub heard_by_calls : (i τ a c : ℕ) → i < titles_max →
      (r : Received (events_heard pool bss) i (life_at (events_heard pool bss) i τ) a c) →
      (υ : ℕ) → InTick (life_at (events_heard pool bss) i τ) r.tick υ → υ ≤ asked_max → (then : HeardBy pool bss υ) →
      AnswersCell (agent_after pool then.earlier).state i r.lane υ c
