-- `console_desk::whens::event_asked` meets its contract: the numbers of the line by their places.
use mathlib.Core.Path.{ap}
use Rattle.story.specs.declared.Act.{Act}
use Rattle.story.specs.Story.{event}
use Rattle.console_lines.specs.Lines.{number_in}
use Rattle.console_desk.specs.Asks.{when_event}
use Rattle.console_desk.proofs.whens.event_asked.Goals as goal

pub returns : goal.returns
unfolding when_event
returns c =
    let l = c.args.line in
    ap (λ (a : Act). event (number_in l 0) (number_in l 1) a) c.act_asked-act.ensures
