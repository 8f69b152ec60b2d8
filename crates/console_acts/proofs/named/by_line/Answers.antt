-- `console_acts::named::by_line` meets its contract: the sequence after 12, else what a notice or an event missed.
use Rattle.console_acts.proofs.Missing.{names_sequence, names_notice, names_event}
use mathlib.Core.Path.{ap, ◌∙◌}
use Rattle.story.specs.declared.Event.{Event}
use Rattle.console_acts.specs.Named.{missed_by}
use Rattle.console_acts.proofs.named.by_line.Goals as goal

pub returns-then-answer-eq-OUT_OF_TURN : goal.returns-then-answer-eq-OUT_OF_TURN
returns-then-answer-eq-OUT_OF_TURN c = names_sequence _ _ _ _ c.if-answer-eq-OUT_OF_TURN.true

pub returns-then-command-eq-NOTICE : goal.returns-then-command-eq-NOTICE
returns-then-command-eq-NOTICE c =
    let at-reading = c in
    let at-if2 = at-reading in
    names_notice _ _ _ _ _ _ at-if2.if-answer-eq-OUT_OF_TURN.false at-if2.if-command-eq-NOTICE.true
    at-reading.reading.ensures c.by_reading.ensures

pub returns : goal.returns
returns c =
    let at-if2 = c in
    let a = at-if2.args in
    names_event _ _ _ _ _ at-if2.if-answer-eq-OUT_OF_TURN.false at-if2.if-command-eq-NOTICE.false
    (c.by_event.ensures ∙ ap (λ (e : Event). missed_by a.answer a.agent.state e) c.event_in.ensures)
