-- `headend_desk::turn` meets its contract: an event, or any other line.
use mathlib.Core.Path.{refl, sym, ◌∙◌}
use Rattle.text.proofs.Pages.{nothing}
use Rattle.headend_desk.specs.Desk.{head_after, head_text, head_notice, head_sum}
use Rattle.headend_desk.proofs.Replying.{event_readable}
use Rattle.headend_desk.proofs.turn.Goals as goal

pub act-requires : goal.act-requires
act-requires c = event_readable c.args.s.now _ c.requires _ c.is_event.ensures c.if-is_event.true

pub returns-then-is_event : goal.returns-then-is_event
unfolding head_after head_text head_notice head_sum
returns-then-is_event c = rw (← c.requires, sym c.is_event.ensures ∙ c.if-is_event.true) c.act.ensures

pub returns : goal.returns
unfolding head_after head_text head_notice head_sum
returns c =
    rw (← c.requires, sym c.is_event.ensures ∙ c.if-is_event.false)
    record { agent = refl; answered = c.put_other.ensures; noticed = nothing; summed = nothing }
