-- `pool_in` meets its contract: the test of the layout is the definition's.
use mathlib.Core.Path.{refl, sym, ◌∙◌}
use Rattle.row_questions.specs.Questions.{pool_in}
use Rattle.row_questions.proofs.standing.pool_in.Goals as goal

pub returns-then-is_sound : goal.returns-then-is_sound
unfolding pool_in
returns-then-is_sound c = rw (sym c.is_sound.ensures ∙ c.if-is_sound.true) refl

pub returns : goal.returns
unfolding pool_in
returns c = rw (sym c.is_sound.ensures ∙ c.if-is_sound.false) refl
