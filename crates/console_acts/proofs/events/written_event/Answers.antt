-- `console_acts::events::written_event` meets its contract: the numbers of the line by their places.
use Prim.Native.Nat.{ℕ}
use mathlib.Core.Path.{ap, ◌∙◌}
use Rattle.story.specs.declared.Act.{Act}
use Rattle.story.specs.Story.{event}
use Rattle.console_lines.specs.Lines.{number_in}
use Rattle.console_acts.specs.Events.{act_by, written_event}
use Rattle.console_acts.proofs.events.written_event.Goals as goal

pub returns : goal.returns
unfolding written_event
returns c =
    let l = c.args.line in
    c.event_at.ensures
    ∙ ap (λ (a : Act). event (number_in l 1) (number_in l 2) a)
    (c.act_by.ensures
    ∙ ap (λ (w : ℕ). act_by w (number_in l 3) (number_in l 4) (number_in l 5) (number_in l 6)) c.word_of-word.ensures)
