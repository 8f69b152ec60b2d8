-- `log_marks::playing::step` meets its contract: by what the reader finds at the place.
use mathlib.Core.Path.{sym, ◌∙◌}
use mathlib.Core.Logic.{inl, inr}
use Rattle.log_marks.proofs.Going.{steps_notice, steps_end, steps_none}
use Rattle.log_marks.proofs.playing.step.Goals as goal

pub returns-in-At : goal.returns-in-At
returns-in-At c =
    steps_notice _ _ _ _ _ _ _ _ _ _ (sym c.next_in.ensures.is ∙ c.in-At.is) (c.hear.ensures.written, (c.hear.ensures.kept_after, c.hear.ensures.takes))

pub returns-in-End : goal.returns-in-End
returns-in-End c = elim c.in-End.is [
  | inl e ↦ steps_end _ _ _ _ _ _ c.requires.tested (sym c.next_in.ensures.is ∙ e)
  | inr e ↦ steps_none _ _ _ _ _ _ c.requires.tested (sym c.next_in.ensures.is ∙ e)
]
