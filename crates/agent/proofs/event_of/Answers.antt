-- `event_of` meets its contract: the numbers and the act of the notice.
use mathlib.Core.Path.{ap, ◌∙◌}
use Rattle.story.specs.declared.Act.{Act}
use Rattle.story.specs.Story.{event}
use Rattle.agent.proofs.event_of.Goals as goal

pub returns : goal.returns
returns c =
    let n = c.args.n in
    c.event_at.ensures ∙ ap (λ (a : Act). event n.title n.time a) c.act_of.ensures
