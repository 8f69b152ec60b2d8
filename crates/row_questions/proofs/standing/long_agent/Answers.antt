-- `long_agent` meets its contract: the test of the layout is the definition's.
use mathlib.Core.Path.{sym, ◌∙◌}
use Rattle.row_questions.proofs.standing.long_agent.Goals as goal

pub sound_agent-requires : goal.sound_agent-requires
sound_agent-requires c = record { row_len = c.requires; row_value = sym c.is_sound.ensures ∙ c.if-is_sound.true }

pub returns-then-is_sound : goal.returns-then-is_sound
returns-then-is_sound c = rw (sym c.is_sound.ensures ∙ c.if-is_sound.true) c.sound_agent.ensures

pub returns : goal.returns
returns c =
    rw (sym c.is_sound.ensures ∙ c.if-is_sound.false) c.fresh_agent.ensures.1
