-- `log_boxes::beginning_of` meets its contract: the wait where nothing is refused, else the refusal.
use mathlib.Core.Path.{refl}
use Rattle.log_boxes.proofs.beginning_of.Goals as goal

pub returns : goal.returns
returns c =
    record {
      answers = c.answer_of-answer.ensures;
      waits_from = λ d. absurd (c.if-answer-eq-DONE.false d);
      lets_in_holds = λ d e. absurd (c.if-answer-eq-DONE.false d);
      turned_away = λ d e. absurd (c.if-answer-eq-DONE.false d);
      refuses = λ off. refl;
    }
