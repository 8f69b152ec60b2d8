-- `console_acts::events::event_in` meets its contract: the numbers of the line by their places.
use Prim.Native.Nat.{ℕ}
use mathlib.Core.Path.{ap, ◌∙◌}
use Rattle.story.specs.declared.Act.{Act}
use Rattle.story.specs.Story.{event}
use Rattle.console_lines.specs.Lines.{number_in}
use Rattle.console_acts.specs.Events.{act_by, event_in}
use Rattle.console_acts.proofs.events.event_in.Goals as goal

pub returns : goal.returns
unfolding event_in
returns c =
    let l = c.args.line in
    c.event_at.ensures
    ∙ ap (λ (a : Act). event (number_in l 0) (number_in l 1) a)
    (c.act_by.ensures
    ∙ ap (λ (w : ℕ). act_by w (number_in l 2) (number_in l 3) (number_in l 4) (number_in l 5)) c.word_of-word.ensures)
